-- The MIDI Time Code of a list of frames (MIDI 1.0, MIDI Time Code). A run of frames is sent as a full message and
-- then four quarter frames for each of its frames, so that eight quarter frames carry one address and span two frames.
-- Where a run begins, and how the frames of a backward run are paired, is this project's own.
use Rattle.std.specs.Prelude.{ℕ, ◌+◌, ◌%◌, Bool, true, false, not, ◌==◌, cond, pos, neg_ℤ, List, [], ◌∷◌, ◌++◌}
use Rattle.std.specs.List.{flat_map, take_while}
use Rattle.tc_address.specs.declared.direction.Direction.{Direction}
use Rattle.tc_address.specs.declared.direction.Direction.TheVariants.{Forward, Backward}
use Rattle.tc_address.specs.Label.{Address}
use Rattle.tc_address.specs.Numbering.{step}
use Rattle.flywheel.specs.declared.frame.Frame.{Frame}
use Rattle.flywheel.specs.declared.frame.Frame.TheVariants.{Heard, Invented, Gone}
use Rattle.quarter_frame.specs.Message.{quarter_of, full_of}
use Rattle.flywheel.specs.Kinds.{is_gone}
use Rattle.flywheel.specs.GoOn.{goes_on}

-- the quarter frames of these pieces of a label
abbrev pub quarters : Address → List ℕ → List ℕ
quarters label pieces = flat_map (λ piece. quarter_of label piece) pieces

-- the label one before
abbrev pub before : Address → Address
before label = step label (neg_ℤ (pos 1))

-- the four quarter frames of a frame, by its direction and whether its position in the run is even. Both frames of a
-- pair carry the earlier label of the two
abbrev pub four_of : Address → Direction → Bool → List ℕ
four_of label Forward true = quarters label (0 ∷ 1 ∷ 2 ∷ 3 ∷ [])
four_of label Forward false = quarters (before label) (4 ∷ 5 ∷ 6 ∷ 7 ∷ [])
four_of label Backward true = quarters (before label) (7 ∷ 6 ∷ 5 ∷ 4 ∷ [])
four_of label Backward false = quarters label (3 ∷ 2 ∷ 1 ∷ 0 ∷ [])

-- a frame at an even place of its run
abbrev pub is_even : ℕ → Bool
is_even position = position % 2 == 0

-- what is sent of a frame for its position in the run
abbrev pub quarters_of : ℕ → Frame → List ℕ
quarters_of position (Heard label direction joined tick) = four_of label direction (is_even position)
quarters_of position (Invented label direction invented tick) = four_of label direction (is_even position)
quarters_of position (Gone tick) = []

-- what is sent of frames of a run from a position on
abbrev pub quarters_from : ℕ → List Frame → List ℕ
quarters_from position [] = []
quarters_from position (frame ∷ more) = quarters_of position frame ++ quarters_from (position + 1) more

-- the full message of a frame's label
abbrev pub full_message : Frame → List ℕ
full_message (Heard label direction joined tick) = full_of label
full_message (Invented label direction invented tick) = full_of label
full_message (Gone tick) = []

-- what is sent of a run, by its first frame and the others
abbrev pub run_text : Frame → List Frame → List ℕ
run_text first others = full_message first ++ quarters_from 0 (first ∷ others)

-- a frame begins a run: it is no end, and goes on no run, or is the first frame or directly follows an end (is `fresh`)
abbrev pub begins_run : Bool → Frame → Bool
begins_run true frame = not (is_gone frame)
begins_run false (Heard label direction joined tick) = not joined
begins_run false (Invented label direction invented tick) = false
begins_run false (Gone tick) = false

-- the texts of the runs, each of which lasts as long as frames go on it. `fresh` says whether the first frame here
-- comes first or after an end
abbrev pub mtc_from : Bool → List Frame → List ℕ
mtc_from fresh [] = []
mtc_from fresh (frame ∷ more) =
    cond (begins_run fresh frame) (run_text frame (take_while goes_on more)) [] ++ mtc_from (is_gone frame) more

-- the MIDI Time Code of a list of frames
abbrev pub mtc_of : List Frame → List ℕ
mtc_of frames = mtc_from true frames
