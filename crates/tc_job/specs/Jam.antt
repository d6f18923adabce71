-- What the words say of a clean recording that is to be made.
use Rattle.std.specs.Prelude.{ℕ, ◌≤◌}
use Rattle.biphase.specs.Shape.{IsShaped}
use Rattle.tc_job.specs.declared.flight.Flight.{Flight}
use Rattle.limits.specs.declared.recording.TheConstants.{MAX_TICK_RATE}

-- frames that are had so, in cells of this many ticks of a clock with this tick rate
pub record Jamming : Type 0 where
  pub flight : Flight
  pub cell : ℕ
  pub tick_rate : ℕ

-- a clean recording that is to be made, by its values
abbrev pub jamming_of : Flight → ℕ → ℕ → Jamming
jamming_of flight cell tick_rate = record { flight = flight; cell = cell; tick_rate = tick_rate }

-- numbers in their ranges
pub record IsJamming (j : Jamming) : Type 0 where
  pub limit : j.flight.limit ≤ 255
  pub cell : IsShaped j.cell
  pub some_ticks : 1 ≤ j.tick_rate
  pub not_too_fast : j.tick_rate ≤ MAX_TICK_RATE
