use Rattle.flywheel.proofs.BoundedInvention.{due_steps-range, due-of_count, count-of_due}
use Rattle.flywheel.proofs.laws.steps_are_due_in_order.Goals as goal

pub returns-clause-first : goal.returns-clause-first
returns-clause-first c = λ limit tick word. due_steps-range limit word tick

pub returns-clause-due : goal.returns-clause-due
returns-clause-due c = λ limit tick k word l u. (due-of_count limit word tick k l, count-of_due limit word tick k u)
