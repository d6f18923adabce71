-- A sound that is given part by part: in each part its threshold rises or falls from a value to another, but for a
-- ripple, or stays, and its noise has one bound. The rules are this project's own.
use Rattle.std.specs.Prelude.{◌≡◌, ℕ, ◌+◌, ◌-◌, ◌<◌, ◌≤◌, min, max, cond, nat_le, nat_lt, Bool, true, false}
use Rattle.std.specs.Prelude.{List, [], ◌∷◌, length, ℤ, pos, ◌+ℤ◌, ◌-ℤ◌}
use Rattle.pcm_front.specs.declared.threshold.Threshold.{Threshold}
use Rattle.pcm_front.specs.Level.{threshold_at}
use Rattle.tape_sound.specs.Margin.{noise_in_step}

-- a part of a sound: how many samples it has, the threshold at its first sample and at its last, by how much the
-- threshold may move against its way between them, and how loud the noise is at most. A plateau begins and ends with
-- one threshold
pub record Ramp : Type 0 where
  pub long : ℕ
  pub begins : ℕ
  pub ends : ℕ
  pub ripple : ℕ
  pub noise : ℕ

-- over this many samples from one on the threshold rises (true), and nowhere lies further than the ripple below an
-- earlier one; or it falls (false), and nowhere lies further than the ripple above an earlier one
abbrev pub MovesOneWay : Bool → ℕ → Threshold → List ℤ → ℕ → ℕ → Type 0
MovesOneWay true ripple threshold sound first count =
    (early late : ℕ) → first ≤ early → early ≤ late → late < first + count
    → threshold_at threshold sound early ≤ threshold_at threshold sound late + ripple
MovesOneWay false ripple threshold sound first count =
    (early late : ℕ) → first ≤ early → early ≤ late → late < first + count
    → threshold_at threshold sound late ≤ threshold_at threshold sound early + ripple

-- the samples from one on are such a part: the threshold rises over it where it ends higher than it begins or equally
-- high, and else it falls
pub record IsRamp (threshold : Threshold) (sound : List ℤ) (first : ℕ) (ramp : Ramp) : Type 0 where
  pub some : 1 ≤ ramp.long
  pub at_begin : threshold_at threshold sound first ≡ ramp.begins
  pub at_end : threshold_at threshold sound (first + (ramp.long - 1)) ≡ ramp.ends
  pub one_way : MovesOneWay (nat_le ramp.begins ramp.ends) ramp.ripple threshold sound first ramp.long

-- the sound from a sample on to its end is these parts, one after another
abbrev pub AreRamps : Threshold → List ℤ → ℕ → List Ramp → Type 0
AreRamps threshold sound first [] = length sound ≤ first
AreRamps threshold sound first (ramp ∷ ramps) =
    IsRamp threshold sound first ramp × AreRamps threshold sound (first + ramp.long) ramps

-- a number of the part in which a place lies, where the first part begins at place 0
abbrev pub along : (Ramp → ℕ) → List Ramp → ℕ → ℕ
along number [] place = 0
along number (ramp ∷ ramps) place =
    cond (nat_lt place ramp.long) (number ramp) (along number ramps (place - ramp.long))

-- how loud the noise is at most in the part of a place
abbrev pub noise_along : List Ramp → ℕ → ℕ
noise_along ramps = along (λ ramp. ramp.noise) ramps

-- the least and the greatest that a threshold can be on its way
abbrev pub least_in : Ramp → ℕ
least_in ramp = min ramp.begins ramp.ends - ramp.ripple

-- the greatest value of the threshold in a part, with the ripple
abbrev pub most_in : Ramp → ℕ
most_in ramp = max ramp.begins ramp.ends + ramp.ripple

-- the bounds that these parts give: they leave room for the noise below the least threshold and above the greatest
abbrev pub low_along : List Ramp → ℕ → ℤ
low_along ramps place = pos (along least_in ramps place) -ℤ pos (noise_in_step (noise_along ramps) place)

-- the high bound at a place, with room for the noise
abbrev pub high_along : List Ramp → ℕ → ℤ
high_along ramps place = pos (along most_in ramps place) +ℤ pos (noise_in_step (noise_along ramps) place)
