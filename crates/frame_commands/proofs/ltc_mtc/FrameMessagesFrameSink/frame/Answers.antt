use Rattle.frame_commands.proofs.ltc_mtc.FrameMessagesFrameSink.frame.Goals as goal

-- its messages were written
pub returns-clause-sends : goal.returns-clause-sends
returns-clause-sends g c = λ choice header frames was.
    let s = c.frame-count.ensures.stands frames was in
    (s.0, (_, s.1, c.write.ensures))
