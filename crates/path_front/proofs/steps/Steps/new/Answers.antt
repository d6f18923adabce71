use Rattle.std.proofs.Common.{pos}
use Rattle.path_front.proofs.StepsNext.{steps_new}
use Rattle.path_front.proofs.steps.Steps.new.Goals as goal

pub returns-clause-stands : goal.returns-clause-stands
returns-clause-stands c =
    steps_new c.args.grid c.new.result c.new-4.result c.new-2.result c.new-3.result
    (record { clipped = pos 0; held = pos 0 }) c.new.ensures.stands c.new-2.ensures.stands c.new-3.ensures.stands
    c.new-4.ensures.stands
