use Rattle.label_command.proofs.SumsTold.{added_whole, none_added_before, none_added_to_the_limit}
use Rattle.label_command.proofs.laws.lines_are_added_up.Goals as goal

pub returns-clause-whole : goal.returns-clause-whole
returns-clause-whole c = added_whole (record {
  text = c.a_text_is_read_as_its_label.ensures.only;
  number = c.number_and_label_are_inverse.ensures.number;
})

pub returns-clause-refused : goal.returns-clause-refused
returns-clause-refused c = none_added_before (record {
  text = c.a_text_is_read_as_its_label.ensures.only;
  number = c.number_and_label_are_inverse.ensures.number;
})

pub returns-clause-limit : goal.returns-clause-limit
returns-clause-limit c = λ base text lines before behind line labels.
    none_added_to_the_limit (record {
      text = c.a_text_is_read_as_its_label.ensures.only;
      number = c.number_and_label_are_inverse.ensures.number;
    }) base text lines before line behind labels
