use Rattle.std.proofs.Common.{◌++◌, ap₂, ℕ, List, subst}
use Rattle.tape_spans.specs.StandsFor.{ended_lines}
use Rattle.frame_commands.proofs.SpansOfFrames.{counted_is, open_is}
use Rattle.frame_commands.proofs.ltc_spans.SpanLinesFrameSink.finish.Goals as goal

-- the line of the open span was written, and that which counts all
pub returns : goal.returns
returns g c = λ choice header list frames was counts.
    let s = c.args.self.now in
    let first = ended_lines s.tick_rate s.system c.current.result in
    let second = c.end_text.result.items in
    let opened = open_is s.tape s.tick_rate s.system header frames first was
    (c.current.ensures.line frames s.tick_rate s.system was.stands) in
    let counted = counted_is c.args._frames.now frames list second c.args.intervals c.args.ticks counts
    (c.end_text.ensures frames was.stands) in
    subst (λ (l : List ℕ). g.O.Output.given c.args.out.now c.write.new.self l)
    (ap₂ (λ (a b : List ℕ). a ++ b) opened counted)
    (g.O.Output.given_more _ _ _ first second c.write_span.ensures (rw c.deref.ensures.0 at c.write.ensures))
