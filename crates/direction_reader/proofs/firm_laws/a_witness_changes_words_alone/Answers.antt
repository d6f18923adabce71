use Rattle.direction_reader.proofs.FirmJudges.{list_judged}
use Rattle.direction_reader.proofs.firm_laws.a_witness_changes_words_alone.Goals as goal

pub returns : goal.returns
returns c = list_judged c.a_list_has_one_list_of_stretches.ensures.one
