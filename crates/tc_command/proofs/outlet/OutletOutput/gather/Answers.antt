use Rattle.std.proofs.Common.{rules}
use Rattle.tc_command.specs.OutletLemmas.{gathered_more}
use Rattle.tc_command.proofs.outlet.OutletOutput.gather.Goals as goal

pub returns : goal.returns
returns g c =
    (c.make_room.ensures.same, gathered_more _ _ _ _ _ _ _ _ _ _ c.make_room.ensures.given (search rules))
