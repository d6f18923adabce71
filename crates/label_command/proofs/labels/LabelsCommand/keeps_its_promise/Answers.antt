use Rattle.label_command.proofs.LinesTold.{lines_are_kept}
use Rattle.label_command.proofs.labels.LabelsCommand.keeps_its_promise.Goals as goal

pub returns : goal.returns
returns c = lines_are_kept (record {
  text = c.a_text_is_read_as_its_label.ensures.only;
  number = c.number_and_label_are_inverse.ensures.number;
}) c.args.self.now.run
