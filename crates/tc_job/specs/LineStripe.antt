-- What the words say of a line file that is to be made.
use Rattle.std.specs.Prelude.{ℕ, ◌≤◌}
use Rattle.tc_address.specs.Count.{system_with}
use Rattle.tc_address.specs.Label.{Address, IsLabel}
use Rattle.tc_job.specs.declared.stripe.TheConstants.{MAX_FRAMES}
use Rattle.vitc_line.specs.Places.{HasLines}
use Rattle.vitc_reader.specs.Runs.{IsLineLength}

-- how many frames from a label on, and how many ticks a line lasts
pub record LineStriping : Type 0 where
  pub label : Address
  pub frames : ℕ
  pub length : ℕ

-- a line file that is to be made, by its values
abbrev pub line_stripe_of : Address → ℕ → ℕ → LineStriping
line_stripe_of label frames length = record { label = label; frames = frames; length = length }

-- a label of a count whose pictures have lines of time code, some frames and not too many, and a length that a line
-- may have
pub record IsLineStripe (s : LineStriping) : Type 0 where
  pub label : IsLabel s.label
  pub lines : HasLines (system_with s.label.count)
  pub some_frames : 1 ≤ s.frames
  pub not_too_many : s.frames ≤ MAX_FRAMES
  pub length : IsLineLength s.length
