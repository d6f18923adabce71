use Rattle.tc_command.specs.ToldLemmas.{made_is_kept}
use Rattle.made_commands.proofs.vitc_make.VitcMakeCommand.keeps_its_promise.Goals as goal

pub returns : goal.returns
returns c = made_is_kept _ _
    (c.lines_that_are_made_are_read_back.ensures c.args.self.now.stripe c.frames-frames.ensures.valid)
