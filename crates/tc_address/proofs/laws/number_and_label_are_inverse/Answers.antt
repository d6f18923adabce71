use Rattle.tc_address.proofs.OneNumber.{get_number_of, number_of_below, number_of_get}
use Rattle.tc_address.proofs.laws.number_and_label_are_inverse.Goals as goal

pub returns-clause-label : goal.returns-clause-label
returns-clause-label c = get_number_of

pub returns-clause-number : goal.returns-clause-number
returns-clause-number c = number_of_get

pub returns-clause-below : goal.returns-clause-below
returns-clause-below c = number_of_below
