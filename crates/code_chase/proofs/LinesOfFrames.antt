-- Each frame has its line, and a frame more adds that of the chase behind the frames before it.
use Rattle.std.proofs.Common.{◌≡◌, List, [], ◌∷◌, ◌++◌, ℕ, suc, length, refl, ap}
use Rattle.flywheel.specs.declared.frame.Frame.{Frame}
use Rattle.chase_core.specs.Trace.{trace}
use Rattle.code_chase.specs.CodeTrace.{CodeLoop, after_frame, after_frames, next_line, rows_from, trace_on}

pub trace_on-length : (chase : CodeLoop) (frames : List Frame) → length (trace_on chase frames) ≡ length frames
unfolding trace rows_from
trace_on-length chase [] = refl
trace_on-length chase (first ∷ more) = ap (λ (n : ℕ). suc n) (trace_on-length (after_frame chase first) more)

pub trace_on-more : (chase : CodeLoop) (frames : List Frame) (frame : Frame) →
    trace_on chase (frames ++ frame ∷ []) ≡ trace_on chase frames ++ next_line (after_frames chase frames) frame ∷ []
unfolding trace rows_from
trace_on-more chase [] frame = refl
trace_on-more chase (first ∷ more) frame = ap (λ lines. next_line chase first ∷ lines)
    (trace_on-more (after_frame chase first) more frame)
