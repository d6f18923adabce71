use Rattle.frame_commands.proofs.ltc_chase.LtcChaseCommand.keeps_its_promise.Goals as goal

pub returns : goal.returns
returns c = λ pulled written are input output.
    c.what_is_chased_follows_the_code.ensures c.args.self.now.run c.label-label.ensures.valid pulled written output
