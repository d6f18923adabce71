use Rattle.label_command.proofs.LabelsAreCommand.{labels_are_command}
use Rattle.label_command.proofs.LinesTold.{lines_are_lawful}
use Rattle.label_command.proofs.labels.LabelsCommand.is_lawful.Goals as goal

pub returns : goal.returns
returns c = λ command.
    lines_are_lawful (record {
      text = c.a_text_is_read_as_its_label.ensures.only;
      number = c.number_and_label_are_inverse.ensures.number;
    }) command.run (labels_are_command (record {
      goes_on = c.bytes_are_read_in_order.ensures.good;
      fault = c.bytes_are_read_in_order.ensures.refused;
      limit = c.bytes_are_read_in_order.ensures.past_limit;
    }) command.run)
