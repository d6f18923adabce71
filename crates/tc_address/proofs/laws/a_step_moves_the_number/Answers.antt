use Rattle.tc_address.specs.Circle.{moved}
use Rattle.tc_address.specs.Numbering.{day_length, number_of, step}
use Rattle.tc_address.proofs.OneNumber.{number_of_get, step_get}
use Rattle.tc_address.proofs.laws.a_step_moves_the_number.Goals as goal

-- the label that a step leads to is at the place that was moved to
pub returns-clause-number : goal.returns-clause-number
returns-clause-number c =
    λ a steps. (number_of_get a.count (moved (day_length a.count) (number_of a) steps) (step a steps)
    (step_get a steps)).0

pub returns-clause-label : goal.returns-clause-label
returns-clause-label c = λ a steps.
    let there = number_of_get a.count (moved (day_length a.count) (number_of a) steps) (step a steps) (step_get a steps)
    in
    (there.1, there.2)
