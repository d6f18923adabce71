use Rattle.mtc_reader.proofs.Labels.{no_label, fault_is}
use Rattle.mtc_reader.proofs.laws.the_first_fault_is_told.Goals as goal

pub returns : goal.returns
returns c = λ fault a first. (no_label fault a first, fault_is fault a first)
