use Rattle.tc_command.specs.ToldLemmas.{text_is_lawful}
use Rattle.made_commands.proofs.pages.HelpStatusesCommand.is_lawful.Goals as goal

pub returns : goal.returns
returns c = λ command. text_is_lawful _
