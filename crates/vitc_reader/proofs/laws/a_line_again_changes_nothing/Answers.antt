use Rattle.vitc_reader.proofs.AnswerGrows.{line_again}
use Rattle.vitc_reader.proofs.laws.a_line_again_changes_nothing.Goals as goal

pub returns : goal.returns
returns c = line_again
