use Rattle.tc_command.specs.ToldLemmas.{made_is_kept}
use Rattle.made_commands.proofs.ltc_make.LtcMakeCommand.keeps_its_promise.Goals as goal

pub returns : goal.returns
returns c = made_is_kept _ _ (c.what_is_made_is_read_whole.ensures.back c.args.self.now.stripe c.frames-frames.ensures.valid)
