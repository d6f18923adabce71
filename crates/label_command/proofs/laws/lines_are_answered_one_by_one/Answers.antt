use Rattle.label_command.proofs.LinesTold.{answered_before, answered_to_the_limit, answered_whole, stopped_at_a_line}
use Rattle.label_command.proofs.laws.lines_are_answered_one_by_one.Goals as goal

pub returns-clause-whole : goal.returns-clause-whole
returns-clause-whole c = answered_whole (record {
  text = c.a_text_is_read_as_its_label.ensures.only;
  number = c.number_and_label_are_inverse.ensures.number;
})

pub returns-clause-refused : goal.returns-clause-refused
returns-clause-refused c = answered_before (record {
  text = c.a_text_is_read_as_its_label.ensures.only;
  number = c.number_and_label_are_inverse.ensures.number;
})

pub returns-clause-told : goal.returns-clause-told
returns-clause-told c = stopped_at_a_line (record {
  text = c.a_text_is_read_as_its_label.ensures.only;
  number = c.number_and_label_are_inverse.ensures.number;
})

pub returns-clause-limit : goal.returns-clause-limit
returns-clause-limit c = λ run text lines before behind line labels.
    answered_to_the_limit (record {
      text = c.a_text_is_read_as_its_label.ensures.only;
      number = c.number_and_label_are_inverse.ensures.number;
    }) run text lines before line behind labels
