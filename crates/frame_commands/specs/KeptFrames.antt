-- What a sink of frames brings, so that a command along frames is a command as any other. No promise speaks of it.
use Rattle.std.specs.Prelude.{◌≡◌, ℕ, List, ◌++◌}
use Rattle.flywheel.specs.declared.frame.Frame.{Frame}
use Rattle.interval_file.specs.declared.header.IntervalHeader.{IntervalHeader}
use Rattle.frame_commands.specs.OfFrames.{AreTooMany, FrameText}

-- a text of frames begins with that of the first of them
abbrev pub IsAddedTo : FrameText → Type 0
IsAddedTo made = (header : IntervalHeader) (fs more : List Frame)
    → (rest : List ℕ) × (made.text header (fs ++ more) ≡ made.text header fs ++ rest)

-- what a sink makes of some frames comes first in what it makes of more
pub record AddsInOrder (made : FrameText) : Type 0 where
  -- what it makes of frames comes first
  pub added : IsAddedTo made
  -- and behind a limit of its own it adds nothing
  pub none_more : (header : IntervalHeader) (fs more : List Frame) → AreTooMany made.most fs
      → made.text header (fs ++ more) ≡ made.text header fs
