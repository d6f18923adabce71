use Rattle.std.proofs.Common.{◌≡◌, ◌∷◌, [], ◌++◌, sym, subst}
use Rattle.tape_spans.specs.StandsFor.{StandsFor, cut_lines}
use Rattle.tape_spans.specs.Tape.{Tape}
use Rattle.tape_spans.specs.SpanTexts.{final_lines}
use Rattle.tape_spans.specs.declared.place.Cut.{Cut}
use Rattle.tape_spans.proofs.LinesOfFrames.{frame_adds}
use Rattle.tape_spans.proofs.SpansGoOn.{stands_on}
use Rattle.tape_spans.proofs.tape.TapeSpans.frame.Goals as goal

-- the tape after the frame stands for the frames with it
pub returns-clause-stands : goal.returns-clause-stands
returns-clause-stands c = λ frames stands.
    subst (λ (t : Tape). StandsFor t (frames ++ c.args.frame.now ∷ [])) (sym c.take.ensures.next)
    (stands_on c.args.self.now frames c.args.frame.now stands)

-- and it adds the lines of what the frame completes
pub returns-clause-lines : goal.returns-clause-lines
returns-clause-lines c = λ frames rate system stands.
    subst (λ (cut : Cut). final_lines rate system (frames ++ c.args.frame.now ∷ []) ≡ final_lines rate system frames
    ++ cut_lines rate system cut)
    (sym c.take.ensures.cut) (frame_adds rate system c.args.self.now frames c.args.frame.now stands)
