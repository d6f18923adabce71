use Rattle.std.proofs.Common.{◌∙◌, []}
use Rattle.tc_command.specs.OutletLemmas.{more_given}
use Rattle.tc_command.proofs.outlet.OutletOutput.write.Goals as goal

pub returns : goal.returns
returns g c = (
  c.push.ensures.same ∙ c.push_gathered.ensures.same,
  more_given _ _ _ _ _ _ _ _ _ _ _ _ [] c.args.bytes.now c.push_gathered.ensures.given c.push.ensures.given,
)
