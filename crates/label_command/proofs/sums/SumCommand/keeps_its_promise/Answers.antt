use Rattle.label_command.proofs.SumsTold.{sums_are_kept}
use Rattle.label_command.proofs.sums.SumCommand.keeps_its_promise.Goals as goal

pub returns : goal.returns
returns c = sums_are_kept (record {
  text = c.a_text_is_read_as_its_label.ensures.only;
  number = c.number_and_label_are_inverse.ensures.number;
}) c.args.self.now.base
