use Rattle.tc_command.specs.ToldLemmas.{made_is_lawful}
use Rattle.made_commands.proofs.OneLabel.{one_text}
use Rattle.made_commands.proofs.labels.LabelOfCommand.is_lawful.Goals as goal

pub returns : goal.returns
returns c = λ command. made_is_lawful _ _ (one_text c.a_text_is_read_as_its_label.ensures.only command.label)
