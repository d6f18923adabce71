-- How samples are sliced.
use Rattle.std.specs.Prelude.{ℕ}
use Rattle.pcm_front.specs.declared.start.Start.{Start}
use Rattle.pcm_front.specs.declared.start.Start.TheVariants.{Crossing, Tick}
use Rattle.pcm_front.specs.declared.threshold.Threshold.{Threshold}

-- ticks a sample, a threshold, how many samples a sum has; and where the first distance begins
pub record Settings : Type 0 where
  pub fineness : ℕ
  pub threshold : Threshold
  pub smooth : ℕ
  pub start : Start

-- the first distance begins at the first crossing
abbrev pub from_crossing : ℕ → Threshold → ℕ → Settings
from_crossing fineness threshold smooth =
    record { fineness = fineness; threshold = threshold; smooth = smooth; start = Crossing }

-- it begins at tick 0, the place of the first sample
abbrev pub from_start : ℕ → Threshold → ℕ → Settings
from_start fineness threshold smooth =
    record { fineness = fineness; threshold = threshold; smooth = smooth; start = Tick }
