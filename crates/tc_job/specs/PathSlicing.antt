-- What the words say of sound whose best path is to be written.
use Rattle.std.specs.Prelude.{◌≡◌, ℕ, ◌*◌, ◌^◌, ◌≤◌, Some}
use Rattle.step_grid.specs.declared.grid.Grid.{Grid}
use Rattle.step_grid.specs.Grid.{IsGrid}
use Rattle.tc_address.specs.declared.system.System.{System}
use Rattle.tc_job.specs.declared.slicing.TheConstants.{MAX_FINENESS}
use Rattle.tc_job.specs.PathGrid.{grid_for, step_ticks}
use Rattle.tc_job.specs.SoundLevel.{IsLevel}
use Rattle.limits.specs.declared.recording.TheConstants.{MAX_TICK_RATE}

-- time code of a system, in sound: its samples a second, its least level, the ticks of a sample; how
-- samples become steps, and how many ticks a step has
pub record SlicesPath : Type 0 where
  pub system : System
  pub rate : ℕ
  pub least : ℕ
  pub fineness : ℕ
  pub grid : Grid
  pub ticks : ℕ

-- sound whose best path is to be written, by its values
abbrev pub path_slicing_of : System → ℕ → ℕ → ℕ → Grid → ℕ → SlicesPath
path_slicing_of system rate least fineness grid ticks = record {
  system = system;
  rate = rate;
  least = least;
  fineness = fineness;
  grid = grid;
  ticks = ticks;
}

-- some samples, a level of samples, not too many ticks a second, and steps that are fit
pub record IsPathSlicing (s : SlicesPath) : Type 0 where
  pub some_samples : 1 ≤ s.rate
  pub level : IsLevel s.least
  pub least : 1 ≤ s.fineness
  pub most : s.fineness ≤ MAX_FINENESS
  pub not_too_fast : s.rate * s.fineness ≤ MAX_TICK_RATE
  pub grid_is : grid_for s.system s.rate ≡ Some s.grid
  pub grid : IsGrid s.grid
  pub ticks_are : step_ticks s.fineness s.grid ≡ Some s.ticks
  pub least_ticks : 2 ≤ s.ticks
  pub most_ticks : s.ticks ≤ 2 ^ 16
