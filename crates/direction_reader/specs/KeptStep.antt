-- All that an interval does to the tracker. No public clause speaks of it.
use Rattle.std.specs.Prelude.{◌≡◌, ℕ, List, Option}
use Rattle.cell_tracker.specs.Stretch.{Stretch}
use Rattle.direction_reader.specs.StandsFor.{TrackerStandsFor, StandsAfter}
use Rattle.direction_reader.specs.Tracker.{profile_of, Steps}
use Rattle.direction_reader.specs.Tracking.{Tracking}
use Rattle.direction_reader.specs.declared.state.Step.{Step}

-- what it does to the state, and what that means for the stretches
pub record IsStepped (old : Tracking) (x : ℕ) (new : Tracking) (step : Step) : Type 0 where
  pub steps : Steps old x new step
  pub profile : profile_of new ≡ profile_of old
  pub stands : (intervals : List ℕ) (earlier : List Stretch) (open_yet : Option Stretch)
      → TrackerStandsFor old intervals earlier open_yet
      → StandsAfter old new x intervals earlier open_yet step
