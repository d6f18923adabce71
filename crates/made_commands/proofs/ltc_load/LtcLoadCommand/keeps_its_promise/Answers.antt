use Rattle.tc_command.specs.ToldLemmas.{made_is_kept}
use Rattle.made_commands.proofs.ltc_load.LtcLoadCommand.keeps_its_promise.Goals as goal

pub returns : goal.returns
returns c = made_is_kept _ _ c.is_all_read.ensures
