use Rattle.frame_commands.proofs.jam.LtcJamCommand.keeps_its_promise.Goals as goal

pub returns : goal.returns
returns c = λ pulled written are input output.
    c.what_is_jammed_is_read.ensures c.args.self.now.jam c.cell-cell.ensures.valid pulled written output
