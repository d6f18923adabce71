-- What the words say of sound that is to be sliced, and of sound that is to be made.
use Rattle.std.specs.Prelude.{ℕ, ◌*◌, ◌≤◌, Bool}
use Rattle.pcm_front.specs.declared.threshold.Threshold.{Threshold}
use Rattle.pcm_front.specs.declared.window.TheConstants.{MAX_SMOOTH}
use Rattle.pcm_front.specs.State.{IsThreshold}
use Rattle.tc_address.specs.declared.system.System.{System}
use Rattle.tc_job.specs.declared.slicing.TheConstants.{MAX_FINENESS}
use Rattle.limits.specs.declared.recording.TheConstants.{MAX_TICK_RATE}

-- time code of a system, in sound: its samples a second, a threshold of sums, the ticks of a sample, how many samples
-- a sum has; and whether its distances are written as they pass
pub record Slices : Type 0 where
  pub system : System
  pub rate : ℕ
  pub threshold : Threshold
  pub fineness : ℕ
  pub smooth : ℕ
  pub live : Bool

-- sound that is to be sliced, by its values
abbrev pub slicing_of : System → ℕ → Threshold → ℕ → ℕ → Bool → Slices
slicing_of system rate threshold fineness smooth live = record {
  system = system;
  rate = rate;
  threshold = threshold;
  fineness = fineness;
  smooth = smooth;
  live = live;
}

-- some samples and some ticks, not too many ticks a second, and sums of not too many samples
pub record IsSlicing (s : Slices) : Type 0 where
  pub some_samples : 1 ≤ s.rate
  pub threshold : IsThreshold s.threshold
  pub least : 1 ≤ s.fineness
  pub most : s.fineness ≤ MAX_FINENESS
  pub not_too_fast : s.rate * s.fineness ≤ MAX_TICK_RATE
  pub some_in_sum : 1 ≤ s.smooth
  pub most_in_sum : s.smooth ≤ MAX_SMOOTH
