use Rattle.std.proofs.Common.{arith}
use Rattle.label_command.proofs.OneLine.{answer_is_a_line, answer_is_some, text_no_newline}
use Rattle.label_command.proofs.ShortLines.{spelled_label}
use Rattle.label_lines.specs.Timebase.{count_of}
use Rattle.label_command.proofs.laws.texts_and_answers_are_lines.Goals as goal

pub returns-clause-text : goal.returns-clause-text
returns-clause-text c = λ base text a is.
    let (same, count) = c.a_text_is_read_as_its_label.ensures.only (count_of base) text a is in
    let label = spelled_label (count_of base) text a is in
    let read = c.what_is_written_is_read.ensures.text base a label count in
    rw same (label, count, read, text_no_newline a, omega arith)

pub returns-clause-answer : goal.returns-clause-answer
returns-clause-answer c = λ base way a label count. (
  answer_is_a_line base way a (c.number_and_label_are_inverse.ensures.below a label) count,
  answer_is_some base way a (c.number_and_label_are_inverse.ensures.below a label),
)
