-- The lines of frames come one after another, and the last one counts all of them.
use Rattle.std.proofs.Common.{◌≡◌, ℕ, List, [], ◌∷◌, ◌++◌, sym, ◌∙◌, ap, append-nil}
use Rattle.std.proofs.lemmas.Grind.{flat_map-append}
use Rattle.flywheel.specs.declared.frame.Frame.{Frame}
use Rattle.report_text.specs.FrameTexts.{frame_line, fly_end_line}
use Rattle.frame_commands.specs.declared.frames.Frames.{Frames}
use Rattle.frame_commands.specs.KeptFlight.{CountsAll}
use Rattle.frame_commands.specs.LtcFly.{frame_lines, last_fly_line}

-- the line of a frame after those of others
pub lines_and_one : (fs : List Frame) (frame : Frame) (line : List ℕ) → line ≡ frame_line frame
    → frame_lines (fs ++ frame ∷ []) ≡ frame_lines fs ++ line
lines_and_one fs frame line is =
    flat_map-append frame_line fs (frame ∷ [])
    ∙ ap (λ (l : List ℕ). frame_lines fs ++ l) (append-nil (frame_line frame) ∙ sym is)

-- the same numbers give the same line
same_line : (i h v g t i' h' v' g' t' : ℕ) → i ≡ i' → h ≡ h' → v ≡ v' → g ≡ g' → t ≡ t'
    → fly_end_line i h v g t ≡ fly_end_line i' h' v' g' t'
same_line i h v g t i' h' v' g' t' same_i same_h same_v same_g same_t =
    ap (λ (n : ℕ). fly_end_line n h v g t) same_i ∙ ap (λ (n : ℕ). fly_end_line i' n v g t) same_h
    ∙ ap (λ (n : ℕ). fly_end_line i' h' n g t) same_v
    ∙ ap (λ (n : ℕ). fly_end_line i' h' v' n t) same_g ∙ ap (λ (n : ℕ). fly_end_line i' h' v' g' n) same_t

pub last_line_is : (f : Frames) (count ticks : ℕ) (intervals : List ℕ) (fs : List Frame) (line : List ℕ)
    → CountsAll f count ticks intervals fs → line ≡ fly_end_line count f.heard f.invented f.gone ticks
    → line ≡ last_fly_line intervals fs
last_line_is f count ticks intervals fs line counts is =
    is ∙ same_line _ _ _ _ _ _ _ _ _ _ counts.intervals_are counts.heard counts.invented counts.gone counts.ticks_are
