use Rattle.std.proofs.Common.{refl}
use Rattle.signal_commands.proofs.RawOn.{odd_end}
use Rattle.signal_commands.proofs.raw_samples.RawSamplesContainer.cut_off.Goals as goal

-- inside a sample
pub returns : goal.returns
returns c = λ half front holds. (_, refl, odd_end c.args.self.now front c.args._bytes.now holds half)
