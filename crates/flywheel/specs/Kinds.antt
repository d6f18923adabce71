-- The kinds of frames.
use Rattle.std.specs.Prelude.{Bool, true, false}
use Rattle.flywheel.specs.declared.frame.Frame.{Frame}
use Rattle.flywheel.specs.declared.frame.Frame.TheVariants.{Heard, Invented, Gone}

-- a word was read there
abbrev pub is_heard : Frame → Bool
is_heard (Heard label direction joined tick) = true
is_heard frame = false

-- no word was read there, and its label was counted on
abbrev pub is_invented : Frame → Bool
is_invented (Invented label direction step tick) = true
is_invented frame = false

-- the time code is gone there
abbrev pub is_gone : Frame → Bool
is_gone (Gone tick) = true
is_gone frame = false
