use Rattle.tc_command.specs.ToldLemmas.{made_is_lawful}
use Rattle.made_commands.proofs.OneLabel.{one_number}
use Rattle.made_commands.proofs.labels.NumberCommand.is_lawful.Goals as goal

pub returns : goal.returns
returns c = λ command. made_is_lawful _ _ (one_number c.number_and_label_are_inverse.ensures.number command.label)
