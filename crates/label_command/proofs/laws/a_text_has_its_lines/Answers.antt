use Rattle.label_command.proofs.TextSplit.{lines_of_text, one_list}
use Rattle.label_command.proofs.laws.a_text_has_its_lines.Goals as goal

pub returns-clause-some : goal.returns-clause-some
returns-clause-some c = lines_of_text

pub returns-clause-one : goal.returns-clause-one
returns-clause-one c = one_list
