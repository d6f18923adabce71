-- A sound whose threshold rises over six samples and falls over four, with the bounds that this gives.
use Rattle.std.proofs.Common.{◌≡◌, ℕ, zero, suc, ◌+◌, ◌<◌, ◌≤◌, ℤ, pos, neg_ℤ, List, [], ◌∷◌, refl, arith}
use Rattle.pcm_front.specs.declared.threshold.Threshold.TheVariants.{Follow}
use Rattle.pcm_front.specs.Level.{threshold_at}
use Rattle.tape_sound.specs.Ramps.{high_along, low_along, AreRamps, Ramp}
use Rattle.tape_sound.proofs.AlongRamps.{falls_by_steps, rises_by_steps}

-- three half cells of two samples, and then silence
abbrev sound : List ℤ
sound =
    pos 8 ∷ pos 8 ∷ neg_ℤ (pos 8) ∷ neg_ℤ (pos 8) ∷ pos 8 ∷ pos 8 ∷ pos 0 ∷ pos 0 ∷ pos 0 ∷ pos 0 ∷ []

abbrev ramps : List Ramp
ramps =
    record { long = 6; begins = 1; ends = 4; ripple = 0; noise = 2 }
    ∷ record { long = 4; begins = 3; ends = 2; ripple = 0; noise = 0 } ∷ []

up : (place : ℕ) → 0 ≤ place → place + 1 < 0 + 6
    → threshold_at (Follow 1) sound place ≤ threshold_at (Follow 1) sound (place + 1)
up zero from less = let is : 1 ≤ 2 = omega arith in is
up (suc zero) from less = let is : 2 ≤ 2 = omega arith in is
up (suc (suc zero)) from less = let is : 2 ≤ 3 = omega arith in is
up (suc (suc (suc zero))) from less = let is : 3 ≤ 3 = omega arith in is
up (suc (suc (suc (suc zero)))) from less = let is : 3 ≤ 4 = omega arith in is
up (suc (suc (suc (suc (suc place))))) from less = absurd (omega (arith, less))

down : (place : ℕ) → 6 ≤ place → place + 1 < 6 + 4
    → threshold_at (Follow 1) sound (place + 1) ≤ threshold_at (Follow 1) sound place
down zero from less = absurd (omega (arith, from))
down (suc zero) from less = absurd (omega (arith, from))
down (suc (suc zero)) from less = absurd (omega (arith, from))
down (suc (suc (suc zero))) from less = absurd (omega (arith, from))
down (suc (suc (suc (suc zero)))) from less = absurd (omega (arith, from))
down (suc (suc (suc (suc (suc zero))))) from less = absurd (omega (arith, from))
down (suc (suc (suc (suc (suc (suc zero)))))) from less = let is : 3 ≤ 3 = omega arith in is
down (suc (suc (suc (suc (suc (suc (suc zero))))))) from less = let is : 2 ≤ 3 = omega arith in is
down (suc (suc (suc (suc (suc (suc (suc (suc zero)))))))) from less = let is : 2 ≤ 2 = omega arith in is
down (suc (suc (suc (suc (suc (suc (suc (suc (suc place))))))))) from less = absurd (omega (arith, less))

pub worked : AreRamps (Follow 1) sound 0 ramps
    × (low_along ramps 5 ≡ neg_ℤ (pos 1)) × (high_along ramps 5 ≡ pos 6)
    × (low_along ramps 6 ≡ pos 0) × (high_along ramps 6 ≡ pos 5)
    × (low_along ramps 7 ≡ pos 2) × (high_along ramps 7 ≡ pos 3)
worked = (
  (
    record {
      some = omega arith;
      at_begin = refl;
      at_end = refl;
      one_way = rises_by_steps (Follow 1) sound 0 6 up;
    },
    (
      record {
        some = omega arith;
        at_begin = refl;
        at_end = refl;
        one_way = falls_by_steps (Follow 1) sound 6 4 down;
      },
      omega arith,
    ),
  ),
  refl,
  refl,
  refl,
  refl,
  refl,
  refl,
)
