-- For which frames the spans of a tape stand that keep none of them.
use Rattle.std.specs.Prelude.{◌≡◌, ℕ, true, false, not, List, [], ◌∷◌, ◌++◌, fold, length, Option, Some, None}
use Rattle.std.specs.List.{count_by, list_any, sum_by, take_while}
use Rattle.tc_address.specs.declared.system.System.{System}
use Rattle.flywheel.specs.declared.frame.Frame.{Frame}
use Rattle.flywheel.specs.GoOn.{goes_on}
use Rattle.tape_spans.specs.declared.gap.Gap.{Gap}
use Rattle.tape_spans.specs.declared.place.Cut.{Cut}
use Rattle.tape_spans.specs.declared.place.TapePlace.{TapePlace}
use Rattle.tape_spans.specs.declared.place.TapePlace.TheVariants.{Before, Within, Behind}
use Rattle.tape_spans.specs.declared.span.Mark.{Mark}
use Rattle.tape_spans.specs.declared.span.Span.{Span}
use Rattle.tape_spans.specs.Spans.{SpanFrames, frames_of_spans, span_of}
use Rattle.tape_spans.specs.SpanTexts.{gap_line, span_line}
use Rattle.tape_spans.specs.Tape.{Tape}
use Rattle.flywheel.specs.Kinds.{is_invented}

-- the lines of what a frame tells
abbrev pub ended_lines : ℕ → System → Option Span → List ℕ
ended_lines tick_rate system None = []
ended_lines tick_rate system (Some span) = span_line tick_rate system span

-- the line of a gap, if there is one
abbrev pub gap_lines : Option Gap → List ℕ
gap_lines None = []
gap_lines (Some gap) = gap_line gap

-- the lines of a cut: of the span that ended, and of the gap after which one begins, if there are any
abbrev pub cut_lines : ℕ → System → Cut → List ℕ
cut_lines tick_rate system cut = ended_lines tick_rate system cut.ended ++ gap_lines cut.gap

-- the span that is open: the frame that was heard first, and the frames that went on from it
pub record Running : Type 0 where
  pub first : Mark
  pub more : List Frame

-- the spans of the frames to come: the open one goes on, and then others begin
abbrev pub to_come : Option Running → List Frame → List SpanFrames
to_come None behind = frames_of_spans behind
to_come (Some running) behind =
    record {
      first = running.first;
      more = running.more ++ take_while goes_on behind;
      has_ended = list_any (λ frame. not (goes_on frame)) behind;
    }
    ∷ frames_of_spans behind

-- the open span, as it is so far
abbrev pub so_far : Running → SpanFrames
so_far running = record { first = running.first; more = running.more; has_ended = false }

-- the mark at which the latest of spans ended, behind this one
abbrev pub latest_end : Option Mark → List SpanFrames → Option Mark
latest_end before done = fold (λ mark s. Some (span_of s).last) before done

-- where the tape is: within the open span, or behind a mark or none
abbrev pub place_of_tape : Option Running → Option Mark → TapePlace
place_of_tape (Some running) before =
    Within (record { span = span_of (so_far running); invented = count_by is_invented running.more })
place_of_tape None None = Before
place_of_tape None (Some mark) = Behind mark

-- each of them has ended
abbrev pub AreEnded : List SpanFrames → Type 0
AreEnded [] = Unit {0}
AreEnded (s ∷ more) = (s.has_ended ≡ true) × AreEnded more

-- the spans of these frames that have ended are done and counted, and the place is that of the open one; whatever
-- frames come, their spans go on where the tape is
pub record StandsFor (tape : Tape) (frames : List Frame) : Type 0 where
  pub done : List SpanFrames
  pub running : Option Running
  pub split : (behind : List Frame) → frames_of_spans (frames ++ behind) ≡ done ++ to_come running behind
  pub ended : AreEnded done
  pub place : tape.place ≡ place_of_tape running (latest_end None done)
  pub spans : tape.spans ≡ length done
  pub heard : tape.heard ≡ sum_by (λ s. (span_of s).heard) done
  pub bridged : tape.bridged ≡ sum_by (λ s. (span_of s).bridged) done
