use Rattle.std.proofs.Common.{[], append-nil, ◌∙◌}
use Rattle.signal_commands.specs.KeptSliced.{sliced_well}
use Rattle.signal_commands.proofs.sliced.SlicedSoundListener.finish.Goals as goal

-- all was written
pub returns : goal.returns
returns g c = λ cut format samples written hears. (
  [],
  g.O.Output.given_none c.args._out.now,
  append-nil written ∙ sliced_well c.args.self.now cut format samples written hears,
)
