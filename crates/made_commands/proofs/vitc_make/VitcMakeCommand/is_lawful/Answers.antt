use Rattle.std.proofs.Common.{◌∙◌, sym}
use Rattle.tc_command.specs.ToldLemmas.{made_is_lawful}
use Rattle.made_commands.proofs.vitc_make.VitcMakeCommand.is_lawful.Goals as goal

pub returns : goal.returns
returns c = λ command. made_is_lawful _ _ (λ a b p q. p.are ∙ sym q.are)
