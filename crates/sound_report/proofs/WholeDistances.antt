-- A distance that fits an interval is written as it is, and at each pace if nothing lasts longer than a piece.
use Rattle.std.proofs.Common.{◌≡◌, ℕ, ◌*◌, ◌/◌, ◌<◌, ◌≤◌, Bool, true, false, ℤ, List}
use Rattle.std.proofs.Common.{◌∙◌, arith}
use Rattle.std.specs.List.{AllByRecursion}
use Rattle.pcm_front.specs.DistanceLemmas.{written_whole as fits_whole}
use Rattle.pcm_front.specs.declared.pace.Pace.TheVariants.{Ended, Passing}
use Rattle.pcm_front.specs.Distance.{distances_by, intervals_by, IsInterval}
use Rattle.pcm_front.specs.Pace.{intervals_at, passed_by}
use Rattle.pcm_front.specs.Settings.{Settings}
use Rattle.tc_address.specs.declared.system.System.{System}
use Rattle.tc_address.specs.Count.{rate_of}
use Rattle.tc_job.specs.Pace.{pace_of, quarter_frame}
use Rattle.sound_report.specs.Whole.{AreWhole}

-- what the law of short distances says
pub record PaceLaws : Type 0 where
  pub ended : (settings : Settings) (samples : List ℤ)
      → intervals_at Ended settings samples ≡ intervals_by settings samples
  pub short : (length : ℕ) (settings : Settings) (samples : List ℤ) → IsInterval length → 1 ≤ settings.fineness
      → AllByRecursion (λ distance. distance ≤ length) (distances_by settings samples)
      → passed_by settings samples < length
      → intervals_at (Passing length) settings samples ≡ intervals_by settings samples

quarter_is : (system : System) (tick_rate : ℕ) → IsInterval (quarter_frame system tick_rate)
quarter_is system tick_rate =
    let quarter : ℕ = tick_rate / (4 * rate_of system) in (omega arith, omega arith)

by_pace : PaceLaws → (live : Bool) (system : System) (tick_rate : ℕ) (settings : Settings) (samples : List ℤ)
    → 1 ≤ settings.fineness → AreWhole live system tick_rate settings samples
    → intervals_at (pace_of live system tick_rate) settings samples ≡ intervals_by settings samples
by_pace laws false system tick_rate settings samples some whole = laws.ended settings samples
by_pace laws true system tick_rate settings samples some whole =
    laws.short (quarter_frame system tick_rate) settings samples (quarter_is system tick_rate) some whole.0 whole.1

-- the intervals that are written of a sound are its distances
pub written_whole : PaceLaws → (live : Bool) (system : System) (tick_rate : ℕ) (settings : Settings) (samples : List ℤ)
    → 1 ≤ settings.fineness → AreWhole live system tick_rate settings samples
    → AllByRecursion IsInterval (distances_by settings samples)
    → intervals_at (pace_of live system tick_rate) settings samples ≡ distances_by settings samples
written_whole laws live system tick_rate settings samples some whole fit =
    by_pace laws live system tick_rate settings samples some whole ∙ fits_whole (distances_by settings samples) fit
