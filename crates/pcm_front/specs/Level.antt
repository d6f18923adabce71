-- The threshold at each sample: the same at all of them, or one that follows the level of the sound. The rule is this
-- project's own.
use Rattle.std.specs.Prelude.{ℕ, ◌+◌, ◌-◌, ◌/◌, ◌^◌, ◌≤◌, max, cond, nat_lt, ℤ, unsigned_abs, List, take}
use Rattle.std.specs.List.{fold}
use Rattle.std.specs.Int.{div_ceil}
use Rattle.pcm_front.specs.declared.level.Level.{Level}
use Rattle.pcm_front.specs.declared.threshold.Threshold.{Threshold}
use Rattle.pcm_front.specs.declared.threshold.Threshold.TheVariants.{Fixed, Follow, Deep}

-- no sound yet
abbrev pub silent : Level
silent = record { peak = 0; sum = 0 }

-- the peak after a sample of a size: it grows by a quarter of what it lacks, rounded up, or falls by a 1024th of
-- itself, rounded up
abbrev pub peak_after : ℕ → ℕ → ℕ
peak_after peak size = cond (nat_lt peak size) (peak + div_ceil (size - peak) 4) (peak - div_ceil peak 1_024)

-- the sum after a sample of a size: a 1024th of it goes, rounded down, and the size comes
abbrev pub sum_after : ℕ → ℕ → ℕ
sum_after sum size = sum - sum / 1_024 + size

-- the level after a sample
abbrev pub level_after : Level → ℤ → Level
level_after level sample =
    let size = unsigned_abs sample in record { peak = peak_after level.peak size; sum = sum_after level.sum size }

-- the level of some samples, the first one first
abbrev pub level_of : List ℤ → Level
level_of samples = fold level_after silent samples

-- half of what the peak stands above the mean size, and nothing where it does not stand above it
abbrev pub half_height : Level → ℕ
half_height level = (level.peak - level.sum / 1_024) / 2

-- a quarter of it
abbrev pub quarter_height : Level → ℕ
quarter_height level = (level.peak - level.sum / 1_024) / 4

-- the threshold at a level of the sound: one that follows is never below its least
abbrev pub threshold_by : Threshold → Level → ℕ
threshold_by (Fixed threshold) level = threshold
threshold_by (Follow least) level = max least (half_height level)
threshold_by (Deep least) level = max least (quarter_height level)

-- it is this at least, at each level
abbrev pub least_of : Threshold → ℕ
least_of (Fixed threshold) = threshold
least_of (Follow least) = least
least_of (Deep least) = least

-- the level that is kept after a sample: only a threshold that follows has one
abbrev pub next_level : Threshold → Level → ℤ → Level
next_level (Fixed threshold) level sample = level
next_level (Follow least) level sample = level_after level sample
next_level (Deep least) level sample = level_after level sample

-- the threshold at the sample in a place: by the level of the samples up to this one
abbrev pub threshold_at : Threshold → List ℤ → ℕ → ℕ
threshold_at threshold samples place = threshold_by threshold (level_of (take (place + 1) samples))

-- a sample has 16 bits, with one for the sign
abbrev pub HasSixteenBits : ℤ → Type 0
HasSixteenBits sample = unsigned_abs sample ≤ 2 ^ 15

-- a sum of 16 of them
abbrev pub IsSum : ℤ → Type 0
IsSum sum = unsigned_abs sum ≤ 2 ^ 19

-- the numbers of a level, where each sample is such a sum
pub record IsInRange (level : Level) : Type 0 where
  pub peak : level.peak ≤ 2 ^ 19
  pub sum : level.sum ≤ 2 ^ 29
