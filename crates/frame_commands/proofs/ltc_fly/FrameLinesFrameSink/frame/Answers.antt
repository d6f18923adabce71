use Rattle.frame_commands.proofs.LinesOfFrames.{lines_and_one}
use Rattle.frame_commands.proofs.ltc_fly.FrameLinesFrameSink.frame.Goals as goal

-- its line was written
pub returns-clause-sends : goal.returns-clause-sends
returns-clause-sends g c = λ choice header frames was.
    let line = c.frame_text.result.items in
    let text = lines_and_one frames c.args.frame.now line c.frame_text.ensures in
    (tt, (line, text, rw c.deref.ensures.0 at c.write.ensures))
