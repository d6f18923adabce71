use Rattle.tc_address.proofs.OneTextFault.{one_text_fault}
use Rattle.tc_address.proofs.laws.a_text_has_one_first_fault.Goals as goal

pub returns : goal.returns
returns c = one_text_fault
