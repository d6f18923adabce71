-- The lines of spans are those of the header's tick rate and system, and the last line counts what was read.
use Rattle.std.proofs.Common.{◌≡◌, ℕ, List, [], ◌∷◌, ◌++◌, refl, sym, ◌∙◌, ap, ap₂}
use Rattle.tc_address.specs.declared.system.System.{System}
use Rattle.flywheel.specs.declared.frame.Frame.{Frame}
use Rattle.flywheel.specs.declared.frame.Frame.TheVariants.{Heard, Invented, Gone}
use Rattle.tape_spans.specs.declared.place.Cut.{Cut}
use Rattle.tape_spans.specs.Spans.{frames_of_spans, spans}
use Rattle.tape_spans.specs.SpanTexts.{final_behind, final_lines, last_spans_line, open_line}
use Rattle.tape_spans.specs.StandsFor.{cut_lines}
use Rattle.tape_spans.specs.Tape.{FitsTick, Tape}
use Rattle.interval_file.specs.declared.header.IntervalHeader.{IntervalHeader}
use Rattle.report_text.specs.FrameTexts.{FitsFrameLine}
use Rattle.frame_commands.specs.declared.frames.Frames.{Frames}
use Rattle.frame_commands.specs.KeptFlight.{CountsAll}
use Rattle.frame_commands.specs.KeptSpans.{HasTold}
use Rattle.frame_commands.specs.LtcSpans.{spans_counted}

-- a frame that fits its line has a tick that fits
pub fits_tick : (frame : Frame) → FitsFrameLine frame → FitsTick frame
fits_tick (Heard label direction joined tick) fits = fits
fits_tick (Invented label direction step tick) fits = fits.0
fits_tick (Gone tick) fits = fits

-- of no frame there is no line
pub no_lines : (rate : ℕ) (system : System) → final_lines rate system [] ≡ []
unfolding final_behind frames_of_spans
no_lines rate system = refl

-- the lines with the header's rate and system are those with the rate and system that are kept
same_cut : (rate own : ℕ) (system its : System) (cut : Cut) → rate ≡ own → system ≡ its
    → cut_lines own its cut ≡ cut_lines rate system cut
same_cut rate own system its cut r s = sym (ap₂ (λ (n : ℕ) (y : System). cut_lines n y cut) r s)

-- a frame adds the lines of what it completes
pub cut_added : (tape : Tape) (rate : ℕ) (system : System) (header : IntervalHeader) (frames : List Frame)
    (frame : Frame) (cut : Cut)
    → HasTold tape rate system header frames
    → final_lines header.tick_rate header.system (frames ++ frame ∷ [])
    ≡ final_lines header.tick_rate header.system frames ++ cut_lines header.tick_rate header.system cut
    → final_lines header.tick_rate header.system (frames ++ frame ∷ []) ≡ final_lines header.tick_rate header.system
    frames ++ cut_lines rate system cut
cut_added tape rate system header frames frame cut told lines =
    lines ∙ ap (λ (l : List ℕ). final_lines header.tick_rate header.system frames ++ l)
    (same_cut rate _ system _ cut told.rate_is told.system_is)

-- the line of the open span, with the header's rate and system
pub open_is : (tape : Tape) (rate : ℕ) (system : System) (header : IntervalHeader) (frames : List Frame)
    (first : List ℕ)
    → HasTold tape rate system header frames → open_line rate system frames ≡ first
    → first ≡ open_line header.tick_rate header.system frames
open_is tape rate system header frames first told opened =
    sym opened ∙ ap₂ (λ (n : ℕ) (y : System). open_line n y frames) told.rate_is told.system_is

-- the last line counts what was read
pub counted_is : (f : Frames) (frames : List Frame) (intervals second : List ℕ) (count ticks : ℕ)
    → CountsAll f count ticks intervals frames → second ≡ last_spans_line count (spans frames) ticks
    → second ≡ spans_counted intervals frames
counted_is f frames intervals second count ticks counts counted =
    counted ∙ ap₂ (λ (n t : ℕ). last_spans_line n (spans frames) t) counts.intervals_are counts.ticks_are
