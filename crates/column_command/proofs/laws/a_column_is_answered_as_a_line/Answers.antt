use Rattle.column_command.proofs.OneColumn.{column_alone}
use Rattle.column_command.proofs.laws.a_column_is_answered_as_a_line.Goals as goal

pub returns : goal.returns
returns c = column_alone (record {
  text = c.texts_and_answers_are_lines.ensures.text;
  answer = c.texts_and_answers_are_lines.ensures.answer;
  whole = c.lines_are_answered_one_by_one.ensures.whole;
})
