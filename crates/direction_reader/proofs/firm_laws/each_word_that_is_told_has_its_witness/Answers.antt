use Rattle.direction_reader.proofs.FirmJudges.{all_witness, list_witnessed}
use Rattle.direction_reader.proofs.firm_laws.each_word_that_is_told_has_its_witness.Goals as goal

pub returns-clause-cells : goal.returns-clause-cells
returns-clause-cells c = all_witness

pub returns-clause-list : goal.returns-clause-list
returns-clause-list c = list_witnessed
