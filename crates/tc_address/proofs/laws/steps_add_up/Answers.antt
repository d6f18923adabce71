use Rattle.tc_address.proofs.OneNumber.{step-zero, step-add}
use Rattle.tc_address.proofs.laws.steps_add_up.Goals as goal

pub returns-clause-none : goal.returns-clause-none
returns-clause-none c = step-zero

pub returns-clause-sum : goal.returns-clause-sum
returns-clause-sum c = step-add
