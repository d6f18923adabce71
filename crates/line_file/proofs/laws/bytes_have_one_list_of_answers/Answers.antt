use Rattle.line_file.proofs.FieldByField.{one_list_of}
use Rattle.line_file.proofs.laws.bytes_have_one_list_of_answers.Goals as goal

pub returns : goal.returns
returns c = one_list_of c.lines_have_one_answer.ensures
