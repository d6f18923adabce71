-- When the intervals that are written of a sound are its distances as they are, even if it is sliced live.
use Rattle.std.specs.Prelude.{ℕ, ◌<◌, ◌≤◌, Bool, true, false, ℤ, List}
use Rattle.std.specs.List.{AllByRecursion}
use Rattle.pcm_front.specs.Distance.{distances_by}
use Rattle.pcm_front.specs.Pace.{passed_by}
use Rattle.pcm_front.specs.Settings.{Settings}
use Rattle.tc_address.specs.declared.system.System.{System}
use Rattle.tc_job.specs.Pace.{quarter_frame}

-- a sound that is not live is written in whole distances. One that is live is too, where none of them is longer than a
-- quarter of a frame, and less than that has passed behind the last crossing
abbrev pub AreWhole : Bool → System → ℕ → Settings → List ℤ → Type 0
AreWhole false system tick_rate settings samples = Unit {0}
AreWhole true system tick_rate settings samples =
    AllByRecursion (λ distance. distance ≤ quarter_frame system tick_rate) (distances_by settings samples)
    × (passed_by settings samples < quarter_frame system tick_rate)
