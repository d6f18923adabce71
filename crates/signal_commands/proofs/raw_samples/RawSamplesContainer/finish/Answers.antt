use Rattle.signal_commands.proofs.RawOn.{even_end}
use Rattle.signal_commands.proofs.raw_samples.RawSamplesContainer.finish.Goals as goal

-- it ends behind a sample
pub returns-clause-ends : goal.returns-clause-ends
returns-clause-ends c = λ bytes holds. even_end c.args.self.now bytes holds
