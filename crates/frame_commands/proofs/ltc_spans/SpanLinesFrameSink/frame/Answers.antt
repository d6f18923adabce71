use Rattle.tape_spans.specs.StandsFor.{cut_lines}
use Rattle.frame_commands.proofs.SpansOfFrames.{cut_added}
use Rattle.frame_commands.proofs.ltc_spans.SpanLinesFrameSink.frame.Goals as goal

-- what the frame completes was written
pub returns-clause-sends : goal.returns-clause-sends
returns-clause-sends g c = λ choice header frames was.
    let s = c.args.self.now in
    let cut = c.frame-cut.result in
    let frame = c.args.frame.now in
    let added = cut_added s.tape s.tick_rate s.system header frames frame cut was
    (c.frame-cut.ensures.lines frames header.tick_rate header.system was.stands) in (
      record {
        stands = c.frame-cut.ensures.stands frames was.stands;
        rate_is = was.rate_is;
        system_is = was.system_is;
      },
      (cut_lines s.tick_rate s.system cut, added, c.write_cut.ensures),
    )
