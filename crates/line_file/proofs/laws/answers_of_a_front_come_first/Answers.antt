use Rattle.line_file.proofs.AnswersStay.{answers-stay}
use Rattle.line_file.proofs.laws.answers_of_a_front_come_first.Goals as goal

pub returns : goal.returns
returns c = answers-stay c.lines_have_one_answer.ensures
