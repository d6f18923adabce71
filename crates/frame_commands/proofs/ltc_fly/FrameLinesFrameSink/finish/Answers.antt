use Rattle.std.proofs.Common.{ℕ, List, subst}
use Rattle.frame_commands.proofs.LinesOfFrames.{last_line_is}
use Rattle.frame_commands.proofs.ltc_fly.FrameLinesFrameSink.finish.Goals as goal

-- the last line was written
pub returns : goal.returns
returns g c = λ choice header list given was counts.
    let line = c.end_text.result.items in
    subst (λ (l : List ℕ). g.O.Output.given c.args.out.now c.write.new.self l)
    (last_line_is c.args.frames.now c.args.intervals c.args.ticks list given line counts c.end_text.ensures)
    (rw c.deref.ensures.0 at c.write.ensures)
