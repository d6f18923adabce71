-- What the words say of a recording that is to be made.
use Rattle.std.specs.Prelude.{ℕ, ◌≤◌}
use Rattle.biphase.specs.Shape.{Shape, IsShape}
use Rattle.tc_address.specs.declared.direction.Direction.{Direction}
use Rattle.tc_address.specs.Label.{Address, IsLabel}
use Rattle.tc_job.specs.declared.stripe.TheConstants.{MAX_FRAMES}
use Rattle.limits.specs.declared.recording.TheConstants.{MAX_TICK_RATE}

-- how many frames from a label on in a direction, with cells of a shape, in ticks of a clock with this tick rate
pub record Striping : Type 0 where
  pub direction : Direction
  pub label : Address
  pub frames : ℕ
  pub shape : Shape
  pub tick_rate : ℕ

-- a recording that is to be made, by its values
abbrev pub stripe_of : Direction → Address → ℕ → Shape → ℕ → Striping
stripe_of direction label frames shape tick_rate =
    record { direction = direction; label = label; frames = frames; shape = shape; tick_rate = tick_rate }

-- a label of its count, cells within the tolerance, some frames and some ticks, and not too many
pub record IsStripe (s : Striping) : Type 0 where
  pub label : IsLabel s.label
  pub shape : IsShape s.shape
  pub some_frames : 1 ≤ s.frames
  pub not_too_many : s.frames ≤ MAX_FRAMES
  pub some_ticks : 1 ≤ s.tick_rate
  pub not_too_fast : s.tick_rate ≤ MAX_TICK_RATE
