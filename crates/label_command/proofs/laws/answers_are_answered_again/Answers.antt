use Rattle.label_command.proofs.AnswersRead.{AnswerLaws, answered_again, nothing_added}
use Rattle.label_command.proofs.laws.answers_are_answered_again.Goals as goal

pub returns : goal.returns
returns c =
    let laws : AnswerLaws = record {
      labels = record {
        text = c.a_text_is_read_as_its_label.ensures.only;
        number = c.number_and_label_are_inverse.ensures.number;
      };
      text = c.what_is_written_is_read.ensures.text;
      number = c.what_is_written_is_read.ensures.number;
      seconds = c.what_is_written_is_read.ensures.seconds;
      below = c.number_and_label_are_inverse.ensures.below;
      stepped = c.a_step_moves_the_number.ensures.label;
      none = c.steps_add_up.ensures.none;
      sum = c.steps_add_up.ensures.sum;
    } in
    record { again = answered_again laws; nothing = nothing_added laws }
