-- The lines of a flywheel's frames, byte for byte.
use Rattle.std.specs.Prelude.{ℕ, ◌<◌, ◌^◌, List, ◌++◌, codes, decimal}
use Rattle.tc_address.specs.Spelling.{text_of}
use Rattle.flywheel.specs.declared.frame.Frame.{Frame}
use Rattle.flywheel.specs.declared.frame.Frame.TheVariants.{Heard, Invented, Gone}
use Rattle.line_text.specs.Line.{direction_name, flag_digit}

-- the line of a frame
abbrev pub frame_line : Frame → List ℕ
frame_line (Heard label direction joined tick) =
    codes "heard " ++ direction_name direction ++ codes " " ++ text_of label ++ codes " joined " ++ flag_digit joined
    ++ codes " tick " ++ decimal tick ++ codes "\n"
frame_line (Invented label direction step tick) =
    codes "invented " ++ direction_name direction ++ codes " " ++ text_of label ++ codes " step " ++ decimal step
    ++ codes " tick " ++ decimal tick ++ codes "\n"
frame_line (Gone tick) = codes "gone tick " ++ decimal tick ++ codes "\n"

-- the last line of the frames of a recording
abbrev pub fly_end_line : ℕ → ℕ → ℕ → ℕ → ℕ → List ℕ
fly_end_line intervals heard invented gone ticks =
    codes "end intervals " ++ decimal intervals ++ codes " heard " ++ decimal heard ++ codes " invented "
    ++ decimal invented
    ++ codes " gone " ++ decimal gone ++ codes " ticks " ++ decimal ticks ++ codes "\n"

-- the numbers of a frame are small enough for its line
abbrev pub FitsFrameLine : Frame → Type 0
FitsFrameLine (Heard label direction joined tick) = tick < 2 ^ 60
FitsFrameLine (Invented label direction step tick) = (tick < 2 ^ 60) × (step < 2 ^ 32)
FitsFrameLine (Gone tick) = tick < 2 ^ 60
