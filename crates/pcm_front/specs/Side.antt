-- The sides of the threshold: on which one a sample lies, and on which the sound is after it.
use Rattle.std.specs.Prelude.{ℕ, zero, suc, Bool, true, false, not, cond, is_some, ℤ, pos, neg_ℤ, int_le, List, get_or}
use Rattle.std.specs.Prelude.{Option, Some, None}
use Rattle.std.specs.Option.{option_or}
use Rattle.pcm_front.specs.declared.side.Side.{Side}
use Rattle.pcm_front.specs.declared.side.Side.TheVariants.{High, Low}
use Rattle.pcm_front.specs.declared.threshold.Threshold.{Threshold}
use Rattle.pcm_front.specs.Level.{threshold_at}

-- a sample is high where it is at least the threshold, and low where it is at most the negative threshold
abbrev pub side_of : ℕ → ℤ → Option Side
side_of threshold sample =
    cond (int_le (pos threshold) sample) (Some High) (cond (int_le sample (neg_ℤ (pos threshold))) (Some Low) None)

-- the sample in a place
abbrev pub sample_at : List ℤ → ℕ → ℤ
sample_at samples place = get_or samples place (pos 0)

-- the side on which the sample in a place lies, if it lies on one
abbrev pub side_at : Threshold → List ℤ → ℕ → Option Side
side_at threshold samples place = side_of (threshold_at threshold samples place) (sample_at samples place)

-- the side after the first n samples: that of the latest of them that lies on one
abbrev pub side_after : Threshold → List ℤ → ℕ → Option Side
side_after threshold samples zero = None
side_after threshold samples (suc n) = option_or (side_at threshold samples n) (side_after threshold samples n)

-- the other side
abbrev pub other_side : Side → Side
other_side High = Low
other_side Low = High

-- both sides are there, and they differ
abbrev pub differs : Option Side → Option Side → Bool
differs (Some High) (Some Low) = true
differs (Some Low) (Some High) = true
differs before now = false

-- the sound was on a side, and no sample leads to the other one, or it was on none, and is
abbrev pub stays : Option Side → Option Side → Bool
stays None now = not (is_some now)
stays (Some before) now = not (differs (Some before) now)

-- a sample seen so that the side lies above
abbrev pub upward : Side → ℤ → ℤ
upward High sample = sample
upward Low sample = neg_ℤ sample
