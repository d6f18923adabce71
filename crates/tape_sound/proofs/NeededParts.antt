-- Four sounds that lack one part of a margin each, and cross too soon, too often or too late.
use Rattle.std.proofs.Common.{ℕ, zero, suc, ◌<◌, ◌≤◌, ℤ, pos, neg_ℤ, ◌≤ℤ◌, List, [], ◌∷◌}
use Rattle.std.proofs.Common.{refl, arith}
use Rattle.std.specs.Prelude.{◌+ℤ◌, ◌-ℤ◌, ◌-◌, ◌*◌}
use Rattle.std.proofs.lemmas.Int.{ints}
use Rattle.pcm_front.specs.declared.side.Side.TheVariants.{Low}
use Rattle.pcm_front.specs.declared.threshold.Threshold.TheVariants.{Fixed}
use Rattle.pcm_front.specs.Crossing.{apart, moments}
use Rattle.pcm_front.specs.Side.{sample_at}
use Rattle.tape_sound.specs.Margin.{turns, ComeBehind, ComeWithin, GoesOverAt, HasRoom, IsNoisy, StaysBetween}

-- a number below another, as it goes over
abbrev minus : ℕ → ℤ
minus n = neg_ℤ (pos n)

-- noise of 6 lifts a sample to the threshold, if the low bound leaves room for 3
abbrev dips_clean : List ℤ
dips_clean = minus 20 ∷ minus 1 ∷ pos 20 ∷ []

abbrev dips_sound : List ℤ
dips_sound = minus 20 ∷ pos 5 ∷ pos 20 ∷ []

dips_near : (place : ℕ) → place < 3 → apart (sample_at dips_sound place) (sample_at dips_clean place) ≤ 6
dips_near zero there = omega arith
dips_near (suc zero) there = omega arith
dips_near (suc (suc zero)) there = omega arith
dips_near (suc (suc (suc place))) there = absurd (omega (arith, there))

pub dips : IsNoisy (λ place. 6) dips_clean dips_sound
    × GoesOverAt 1 (λ place. pos 1) (λ place. pos 10) 1 (2 ∷ []) dips_clean
    × ¬ ComeWithin 1 (2 ∷ []) (moments 1 (Fixed 4) dips_sound)
dips = (
  record { long = refl; near = dips_near },
  record {
    side = Low;
    first = 0;
    there = omega arith;
    stands = refl;
    before = λ place less. absurd (omega (arith, less));
    no_sooner = (omega arith, tt);
    within = (omega arith, omega arith, tt);
  },
  λ within. omega (arith, within.0),
)

-- the clean sound comes back over the low bound, but not over the high one
abbrev back_clean : List ℤ
back_clean = minus 20 ∷ pos 20 ∷ minus 2 ∷ pos 20 ∷ []

abbrev back_sound : List ℤ
back_sound = minus 20 ∷ pos 20 ∷ minus 5 ∷ pos 20 ∷ []

back_near : (place : ℕ) → place < 4 → apart (sample_at back_sound place) (sample_at back_clean place) ≤ 3
back_near zero there = omega arith
back_near (suc zero) there = omega arith
back_near (suc (suc zero)) there = omega arith
back_near (suc (suc (suc zero))) there = omega arith
back_near (suc (suc (suc (suc place)))) there = absurd (omega (arith, there))

has_room : (sound : List ℤ) → StaysBetween (λ place. pos 1) (λ place. pos 7) (λ place. 3) (Fixed 4) sound
has_room sound place there =
    let above : (pos 1 +ℤ pos 3) ≤ℤ pos 4 = grind (arith, ints) in
    let below : (pos 4 +ℤ pos 3) ≤ℤ pos 7 = grind (arith, ints) in
    record { some = omega arith; above = above; below = below }

pub comes_back : IsNoisy (λ place. 3) back_clean back_sound
    × StaysBetween (λ place. pos 1) (λ place. pos 7) (λ place. 3) (Fixed 4) back_sound
    × ComeWithin 1 (1 ∷ []) (turns 1 (λ place. pos 7) back_clean Low 1 3)
    × ¬ ComeWithin 1 (1 ∷ []) (moments 1 (Fixed 4) back_sound)
comes_back = (
  record { long = refl; near = back_near },
  has_room back_sound,
  (omega arith, omega arith, tt),
  λ within. within.2,
)

-- the clean sound does not reach the high bound by the end of the delay
abbrev slow_clean : List ℤ
slow_clean = minus 20 ∷ pos 5 ∷ pos 20 ∷ []

abbrev slow_sound : List ℤ
slow_sound = minus 20 ∷ pos 3 ∷ pos 20 ∷ []

slow_near : (place : ℕ) → place < 3 → apart (sample_at slow_sound place) (sample_at slow_clean place) ≤ 3
slow_near zero there = omega arith
slow_near (suc zero) there = omega arith
slow_near (suc (suc zero)) there = omega arith
slow_near (suc (suc (suc place))) there = absurd (omega (arith, there))

pub reaches_too_late : IsNoisy (λ place. 3) slow_clean slow_sound
    × StaysBetween (λ place. pos 1) (λ place. pos 7) (λ place. 3) (Fixed 4) slow_sound
    × ComeBehind (turns 1 (λ place. pos 1) slow_clean Low 1 2) (1 ∷ [])
    × ¬ ComeWithin 0 (1 ∷ []) (moments 1 (Fixed 4) slow_sound)
reaches_too_late = (
  record { long = refl; near = slow_near },
  has_room slow_sound,
  (omega arith, tt),
  λ within. omega (arith, within.1),
)

-- the noise has room at each sample, but is louder at the sample before
abbrev steep_clean : List ℤ
steep_clean = minus 20 ∷ pos 20 ∷ []

abbrev steep_sound : List ℤ
steep_sound = minus 10 ∷ pos 20 ∷ []

abbrev fades : ℕ → ℕ
fades place = 10 - 10 * place

abbrev steep_low : ℕ → ℤ
steep_low place = pos 4 -ℤ pos (10 - 10 * place)

abbrev steep_high : ℕ → ℤ
steep_high place = pos 4 +ℤ pos (10 - 10 * place)

steep_near : (place : ℕ) → place < 2 → apart (sample_at steep_sound place) (sample_at steep_clean place) ≤ fades place
steep_near zero there = let is : 10 ≤ 10 = omega arith in is
steep_near (suc zero) there = let is : 0 ≤ 0 = omega arith in is
steep_near (suc (suc place)) there = absurd (omega (arith, there))

steep_room : (place : ℕ) → place < 2 → HasRoom (steep_low place) (steep_high place) (fades place) 4
steep_room zero there =
    let above : (minus 6 +ℤ pos 10) ≤ℤ pos 4 = grind (arith, ints) in
    let below : (pos 4 +ℤ pos 10) ≤ℤ pos 14 = grind (arith, ints) in
    record { some = omega arith; above = above; below = below }
steep_room (suc zero) there =
    let above : (pos 4 +ℤ pos 0) ≤ℤ pos 4 = grind (arith, ints) in
    let below : (pos 4 +ℤ pos 0) ≤ℤ pos 4 = grind (arith, ints) in
    record { some = omega arith; above = above; below = below }
steep_room (suc (suc place)) there = absurd (omega (arith, there))

pub louder_before : IsNoisy fades steep_clean steep_sound
    × ((place : ℕ) → place < 2 → HasRoom (steep_low place) (steep_high place) (fades place) 4)
    × GoesOverAt 40 steep_low steep_high 0 (24 ∷ []) steep_clean
    × ¬ ComeWithin 0 (24 ∷ []) (moments 40 (Fixed 4) steep_sound)
louder_before = (
  record { long = refl; near = steep_near },
  steep_room,
  record {
    side = Low;
    first = 0;
    there = omega arith;
    stands = refl;
    before = λ place less. absurd (omega (arith, less));
    no_sooner = (omega arith, tt);
    within = (omega arith, omega arith, tt);
  },
  λ within. omega (arith, within.0),
)
