-- What a writer keeps, what it writes of the next frame, and for which frames it stands.
use Rattle.std.specs.Prelude.{◌≡◌, ℕ, false, cond, List, [], ◌++◌, Option, Some, None}
use Rattle.std.specs.List.{take_while}
use Rattle.flywheel.specs.declared.frame.Frame.{Frame}
use Rattle.quarter_frame.specs.declared.half.Half.{Half}
use Rattle.quarter_frame.specs.declared.half.Half.TheVariants.{First, Second}
use Rattle.quarter_frame.specs.Runs.{quarters_of, quarters_from, run_text, mtc_from, mtc_of}
use Rattle.flywheel.specs.Kinds.{is_gone}
use Rattle.flywheel.specs.GoOn.{goes_on}

-- a position that a frame of this half has, and the half of the next frame
abbrev pub position_of : Half → ℕ
position_of First = 0
position_of Second = 1

-- the half of a pair of frames that comes next
abbrev pub other_half : Half → Half
other_half First = Second
other_half Second = First

-- what is written of a frame, where no run is open or the next half of the open run is known: it begins a run, unless
-- it is an end, or goes on
abbrev pub written : Option Half → Frame → List ℕ
written None frame = run_text frame []
written (Some half) frame = cond (goes_on frame) (quarters_of (position_of half) frame) (run_text frame [])

-- the half that follows a frame that goes on no run: the second of the run that it begins, and none after an end
abbrev pub begun_half : Frame → Option Half
begun_half frame = cond (is_gone frame) None (Some Second)

-- the half that follows a frame
abbrev pub next_half : Option Half → Frame → Option Half
next_half None frame = begun_half frame
next_half (Some half) frame = cond (goes_on frame) (Some (other_half half)) (begun_half frame)

-- what is sent of the frames to come: the open run goes on, and then come other runs
abbrev pub text_to_come : Option Half → List Frame → List ℕ
text_to_come None frames = mtc_of frames
text_to_come (Some half) frames = quarters_from (position_of half) (take_while goes_on frames) ++ mtc_from false frames

-- a writer that was given these frames: whatever frames come, their text goes on where the writer is
abbrev pub StandsFor : Option Half → List Frame → Type 0
StandsFor half frames = (more : List Frame) → mtc_of (frames ++ more) ≡ mtc_of frames ++ text_to_come half more
