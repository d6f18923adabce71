use Rattle.line_file.proofs.AnswersExist.{some_list_of}
use Rattle.line_file.proofs.laws.bytes_have_answers.Goals as goal

pub returns : goal.returns
returns c = some_list_of c.lines_have_an_answer.ensures
