-- Holding the flat tops of spiky sound: half of the mean size comes to each sample, on the side on which the sound is.
-- Lists begin with the latest. The rule is this project's own.
use Rattle.std.specs.Prelude.{◌≡◌, ℕ, ◌-◌, ◌*◌, ◌/◌, ◌^◌, ◌≤◌, max, cond, ℤ, pos, ◌+ℤ◌, ◌-ℤ◌, neg_ℤ, int_le}
use Rattle.std.specs.Prelude.{unsigned_abs}
use Rattle.std.specs.Prelude.{List, [], ◌∷◌, Option, Some, None}
use Rattle.pcm_front.specs.Level.{peak_after, sum_after}
use Rattle.path_front.specs.declared.hold.Loudness.{Loudness}
use Rattle.path_front.specs.declared.hold.Side.{Side}
use Rattle.path_front.specs.declared.hold.Side.TheVariants.{High, Low}

-- no sound yet
abbrev pub quiet : Loudness
quiet = record { peak = 0; sum = 0 }

-- peak and sum follow the samples as those of a threshold that follows
abbrev pub loudness_after : Loudness → ℤ → Loudness
loudness_after loudness sample =
    let size = unsigned_abs sample in
    record { peak = peak_after loudness.peak size; sum = sum_after loudness.sum size }

-- after some samples
unfoldable pub loudness_of : List ℤ → Loudness
loudness_of [] = quiet
loudness_of (sample ∷ before) = loudness_after (loudness_of before) sample

-- three eighths of what the peak stands above the mean size, and never below the least
abbrev pub threshold_by : ℕ → Loudness → ℕ
threshold_by least loudness = max (3 * (loudness.peak - loudness.sum / 1_024) / 8) least

-- a sample at the threshold or beyond it leads to its side, and any other leaves the sound where it was
abbrev pub side_by : ℕ → Option Side → ℤ → Option Side
side_by threshold before sample =
    cond (int_le (pos threshold) sample) (Some High) (cond (int_le sample (neg_ℤ (pos threshold))) (Some Low) before)

-- after some samples
unfoldable pub side_of : ℕ → List ℤ → Option Side
side_of least [] = None
side_of least (sample ∷ before) =
    side_by (threshold_by least (loudness_of (sample ∷ before))) (side_of least before) sample

-- so much further on the side
abbrev pub held_to : Option Side → ℕ → ℤ → ℤ
held_to None by sample = sample
held_to (Some High) by sample = sample +ℤ pos by
held_to (Some Low) by sample = sample -ℤ pos by

-- the latest of some samples, held
abbrev pub held_at : ℕ → List ℤ → ℤ
held_at least [] = pos 0
held_at least (sample ∷ before) =
    held_to (side_of least (sample ∷ before)) ((loudness_of (sample ∷ before)).sum / 1_024 / 2) sample

-- the samples, held: each by those up to it
unfoldable pub held : ℕ → List ℤ → List ℤ
held least [] = []
held least (sample ∷ before) = held_at least (sample ∷ before) ∷ held least before

-- the least threshold, how loud the sound is, and the side on which it is
pub record HoldState : Type 0 where
  pub least : ℕ
  pub loudness : Loudness
  pub side : Option Side

-- the numbers of a loudness, where each sample has 16 bits
pub record IsLoudness (loudness : Loudness) : Type 0 where
  pub peak : loudness.peak ≤ 2 ^ 15
  pub sum : loudness.sum ≤ 2 ^ 25

-- what is kept is that of some samples
pub record HoldStandsFor (state : HoldState) (samples : List ℤ) : Type 0 where
  pub loudness : state.loudness ≡ loudness_of samples
  pub side : state.side ≡ side_of state.least samples
