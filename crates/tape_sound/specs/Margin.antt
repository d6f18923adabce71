-- A sound and a clean one: how far its samples lie from those of the clean one, between which bounds its threshold
-- stays, and when the clean one goes over from side to side. The rules are this project's own.
use Rattle.std.specs.Prelude.{◌≡◌, ℕ, zero, suc, ◌+◌, ◌-◌, ◌*◌, ◌<◌, ◌≤◌, Bool, true, false, cond, List, [], ◌∷◌}
use Rattle.std.specs.Prelude.{◌++◌, length, map, max}
use Rattle.std.specs.Prelude.{ℤ, pos, ◌+ℤ◌, ◌≤ℤ◌, int_le}
use Rattle.std.specs.List.{filter, range_with_len}
use Rattle.std.specs.Int.{div_ceil}
use Rattle.pcm_front.specs.declared.side.Side.{Side}
use Rattle.pcm_front.specs.declared.threshold.Threshold.{Threshold}
use Rattle.pcm_front.specs.Crossing.{apart, is_crossing, moment}
use Rattle.pcm_front.specs.Level.{threshold_at}
use Rattle.pcm_front.specs.Side.{other_side, sample_at, upward}

-- a sound is a clean one and some noise: it has as many samples, and none of them is further from the clean one's than
-- the noise is loud in its place
pub record IsNoisy (noise : ℕ → ℕ) (clean sound : List ℤ) : Type 0 where
  pub long : length sound ≡ length clean
  pub near : (place : ℕ) → place < length sound → apart (sample_at sound place) (sample_at clean place) ≤ noise place

-- how loud the noise is in the step to a sample: there, or at the sample before, whichever is more
abbrev pub noise_in_step : (ℕ → ℕ) → ℕ → ℕ
noise_in_step noise place = max (noise (place - 1)) (noise place)

-- the threshold at a sample is 1 or more, and lies between two bounds, with room for the noise on both sides. The low
-- bound may lie below zero: then the noise is louder than the threshold
pub record HasRoom (low high : ℤ) (noise threshold : ℕ) : Type 0 where
  pub some : 1 ≤ threshold
  pub above : (low +ℤ pos noise) ≤ℤ pos threshold
  pub below : (pos threshold +ℤ pos noise) ≤ℤ high

-- so it is at each sample of the sound, with the bounds there and the noise in the step to it
abbrev pub StaysBetween : (ℕ → ℤ) → (ℕ → ℤ) → (ℕ → ℕ) → Threshold → List ℤ → Type 0
StaysBetween low high noise threshold sound =
    (place : ℕ) → place < length sound
    → HasRoom (low place) (high place) (noise_in_step noise place) (threshold_at threshold sound place)

-- a sample reaches a side at a bound: seen so that the side lies above, it is the bound or more
abbrev pub reaches : ℤ → Side → ℤ → Bool
reaches bound side sample = int_le bound (upward side sample)

-- the tick, of those in the step from sample a up to sample b, in which a straight line between the two is first at the
-- bound or above
abbrev pub tick_to_bound : ℕ → ℤ → ℤ → ℤ → ℕ
tick_to_bound fineness bound a b = cond (int_le bound a) 1 (div_ceil (fineness * apart bound a) (apart b a))

-- the moment at which a sound reaches a side at a bound, in the step to the sample in a place
abbrev pub reach_moment : ℕ → ℤ → List ℤ → ℕ → Side → ℕ
reach_moment fineness bound samples place side =
    fineness * (place - 1)
    + tick_to_bound fineness bound (upward side (sample_at samples (place - 1))) (upward side (sample_at samples place))

-- the moments of what goes over from side to side: it is on a side, and at this many places from one on it goes over
-- wherever it reaches the other side
abbrev pub turns_by : (ℕ → Side → Bool) → (ℕ → Side → ℕ) → Side → ℕ → ℕ → List ℕ
turns_by goes at side place zero = []
turns_by goes at side place (suc count) =
    cond (goes place (other_side side))
    (at place (other_side side) ∷ turns_by goes at (other_side side) (place + 1) count)
    (turns_by goes at side (place + 1) count)

-- the moments at which a sound that stands on a side goes over, at the bound of each place
abbrev pub turns : ℕ → (ℕ → ℤ) → List ℤ → Side → ℕ → ℕ → List ℕ
turns fineness bound samples =
    turns_by (λ place side. reaches (bound place) side (sample_at samples place))
    (λ place side. reach_moment fineness (bound place) samples place side)

-- the first moment comes no sooner than the first of others, the second no sooner than the second, and so on: there are
-- as many others, or more
abbrev pub ComeBehind : List ℕ → List ℕ → Type 0
ComeBehind [] others = Unit {0}
ComeBehind (moment ∷ moments) [] = ⊥
ComeBehind (moment ∷ moments) (other ∷ others) = (other ≤ moment) × ComeBehind moments others

-- there are as many moments as others, and each comes within the delay behind its own
abbrev pub ComeWithin : ℕ → List ℕ → List ℕ → Type 0
ComeWithin delay [] [] = Unit {0}
ComeWithin delay (from ∷ others) (moment ∷ moments) =
    (from ≤ moment) × (moment ≤ from + delay) × ComeWithin delay others moments
ComeWithin delay others moments = ⊥

-- a clean sound goes over at these moments. Up to a first place it does not reach the other side, and there it stands
-- on its side at the high bound. From there on it goes over at the low bound no sooner than at these moments, and at
-- the high bound within the delay behind each. So it goes over once at each of them, all the way, and does not come
-- back
pub record GoesOverAt (fineness : ℕ) (low high : ℕ → ℤ) (delay : ℕ) (from : List ℕ) (clean : List ℤ) : Type 0 where
  pub side : Side
  pub first : ℕ
  pub there : first < length clean
  pub stands : reaches (high first) side (sample_at clean first) ≡ true
  pub before : (place : ℕ) → place < first → reaches (low place) (other_side side) (sample_at clean place) ≡ false
  pub no_sooner : ComeBehind (turns fineness low clean side (first + 1) (length clean - (first + 1))) from
  pub within : ComeWithin delay from (turns fineness high clean side (first + 1) (length clean - (first + 1)))

-- the same of a clean sound that ends while it goes over for the last time. Behind the last moment it need not reach
-- the high bound, and its last sample comes within the delay behind that moment
pub record GoesOverToItsEnd (fineness : ℕ) (low high : ℕ → ℤ) (delay : ℕ) (from : List ℕ) (last : ℕ) (clean : List ℤ)
    : Type 0 where
  pub side : Side
  pub first : ℕ
  pub there : first < length clean
  pub stands : reaches (high first) side (sample_at clean first) ≡ true
  pub before : (place : ℕ) → place < first → reaches (low place) (other_side side) (sample_at clean place) ≡ false
  pub no_sooner : ComeBehind (turns fineness low clean side (first + 1) (length clean - (first + 1)))
      (from ++ last ∷ [])
  pub within : ComeWithin delay from (turns fineness high clean side (first + 1) (length clean - (first + 1)))
  pub ends : fineness * (length clean - 1) ≤ last + delay

-- the moments of the crossings at this many places from one on
abbrev pub moments_in : ℕ → Threshold → List ℤ → ℕ → ℕ → List ℕ
moments_in fineness threshold sound place count =
    map (moment fineness threshold sound) (filter (is_crossing threshold sound) (range_with_len place count))
