use Rattle.std.proofs.Common.{List, ℕ, refl, subst, sym}
use Rattle.frame_commands.proofs.SpansOfFrames.{no_lines}
use Rattle.frame_commands.proofs.ltc_spans.SpanLinesFrameSink.begin.Goals as goal

-- no frame was given, and there is no line
pub returns-clause-begins : goal.returns-clause-begins
returns-clause-begins g c =
    let header = c.args.header.now in (
      record { stands = c.new.ensures.stands; rate_is = refl; system_is = refl },
      subst (λ (l : List ℕ). g.O.Output.given c.args._out.now c.args._out.now l)
          (sym (no_lines header.tick_rate header.system)) (g.O.Output.given_none c.args._out.now),
    )
