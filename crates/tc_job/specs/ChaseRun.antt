-- What the words say of a chase over the frames of a recording.
use Rattle.std.specs.Prelude.{ℕ, ◌^◌, ◌<◌, ◌≤◌}
use Rattle.tc_address.specs.Label.{Address, IsLabel}
use Rattle.tc_job.specs.declared.flight.Flight.{Flight}
use Rattle.tc_job.specs.declared.chase_run.TheConstants.{MAX_SLIP}

-- the label at which the transport begins, how the frames are had that it follows, and slips from this seed of at most
-- this many subframes
pub record Chasing : Type 0 where
  pub label : Address
  pub flight : Flight
  pub seed : ℕ
  pub bound : ℕ

-- a chase over the frames of a recording, by its values
abbrev pub chasing_of : Address → Flight → ℕ → ℕ → Chasing
chasing_of label flight seed bound = record { label = label; flight = flight; seed = seed; bound = bound }

-- a label of its count, and numbers in their ranges
pub record IsChasing (c : Chasing) : Type 0 where
  pub label : IsLabel c.label
  pub limit : c.flight.limit ≤ 255
  pub seed : c.seed < 2 ^ 64
  pub bound : c.bound ≤ MAX_SLIP
