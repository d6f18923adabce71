-- What a reader counts, and what it keeps of the stretch that is open.
use Rattle.std.specs.Prelude.{◌≡◌, ℕ, ◌+◌}
use Rattle.tc_address.specs.declared.system.System.{System}
use Rattle.direction_reader.specs.Tracking.{Tracking}
use Rattle.direction_reader.specs.LatestCells.{Cells}
use Rattle.direction_reader.specs.Tracker.{profile_of}

-- the system, the number and the sum of the intervals taken, the state of the tracker, and the latest cells
pub record ReaderState : Type 0 where
  pub system : System
  pub intervals : ℕ
  pub tick : ℕ
  pub tracker : Tracking
  pub cells : Cells

-- a reader takes one interval more
pub record Takes (old : ReaderState) (x : ℕ) (new : ReaderState) : Type 0 where
  pub system : new.system ≡ old.system
  pub profile : profile_of new.tracker ≡ profile_of old.tracker
  pub intervals : new.intervals ≡ old.intervals + 1
  pub tick : new.tick ≡ old.tick + x
