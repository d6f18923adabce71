-- From one crossing to a later one, the ticks differ from those of whole samples by less than a sample.
use Rattle.std.proofs.Common.{◌≡◌, ℕ, zero, suc, ◌+◌, ◌-◌, ◌*◌, ◌≤◌, true, ℤ, List, [], ◌∷◌, map, take, drop, sum}
use Rattle.std.proofs.Common.{mul-add, arith}
use Rattle.std.proofs.lemmas.List.Sums.{sum_by-cons}
use Rattle.pcm_front.specs.declared.threshold.Threshold.{Threshold}
use Rattle.pcm_front.specs.Crossing.{is_crossing, crossings, moment}
use Rattle.pcm_front.specs.Distance.{gaps, gaps_after, distances}
use Rattle.pcm_front.proofs.Rising.{AreRising, crossings-rise, after_first, tick_at-within, moment-later, moment-whole}

-- two sums of neighbouring distances, in ticks and in whole samples, lead from a crossing to another
record Leads (f : ℕ) (threshold : Threshold) (xs : List ℤ) (i fine whole : ℕ) : Type 0 where
  to : ℕ
  is : is_crossing threshold xs to ≡ true
  ticks : fine + moment f threshold xs i ≡ moment f threshold xs to
  places : whole + i ≡ to

abbrev sum_from : ℕ → Threshold → List ℤ → ℕ → List ℕ → ℕ → ℕ
sum_from f threshold xs i is n = sum (take n (gaps_after (moment f threshold xs i) (map (moment f threshold xs) is)))

sum_from-more : (f : ℕ) (threshold : Threshold) (xs : List ℤ) (i j : ℕ) (js : List ℕ) (n : ℕ) →
    sum_from f threshold xs i (j ∷ js) (suc n) ≡ (moment f threshold xs j - moment f threshold xs i) + sum_from f
    threshold xs j js n
sum_from-more f threshold xs i j js n =
    let g : ℕ → ℕ = moment f threshold xs in sum_by-cons (λ d. d) (g j - g i) (take n (gaps_after (g j) (map g js)))

leads : (f : ℕ) (threshold : Threshold) (xs : List ℤ) (i : ℕ) (is : List ℕ) (n : ℕ) → 1 ≤ f
    → is_crossing threshold xs i ≡ true →
    AreRising (is_crossing threshold xs) (i + 1) is → Leads f threshold xs i (sum_from f threshold xs i is n)
    (sum_from 1 threshold xs i is n)
leads f threshold xs i is zero some at rising = record { to = i; is = at; ticks = omega arith; places = omega arith }
leads f threshold xs i [] (suc n) some at rising = record { to = i; is = at; ticks = omega arith; places = omega arith }
leads f threshold xs i (j ∷ js) (suc n) some at rising =
    let more = leads f threshold xs j js n some rising.1 rising.2 in
    let later = moment-later f threshold xs i j some at rising.1 rising.0 in
    let later_place = moment-later 1 threshold xs i j (omega arith) at rising.1 rising.0 in
    let place = moment-whole threshold xs i at in
    let place_too = moment-whole threshold xs j rising.1 in
    let sum_is = sum_from-more f threshold xs i j js n in
    let sum_is_too = sum_from-more 1 threshold xs i j js n in
    record {
      to = more.to;
      is = more.is;
      ticks = omega (arith, more.ticks);
      places = omega (arith, more.places);
    }

-- the sums are near each other
record AreNear (f fine whole : ℕ) : Type 0 where
  above : fine ≤ f * whole + (f - 1)
  below : f * whole ≤ fine + (f - 1)

near : (f : ℕ) (threshold : Threshold) (xs : List ℤ) (i fine whole : ℕ) → 1 ≤ f → is_crossing threshold xs i ≡ true →
    Leads f threshold xs i fine whole → AreNear f fine whole
near f threshold xs i fine whole some at leads =
    let first = after_first threshold xs i at in
    let tick = tick_at-within f threshold xs i some at in
    let tick_too = tick_at-within f threshold xs leads.to some leads.is in
    let place : leads.to - 1 ≡ (i - 1) + whole = omega (arith, leads.places) in
    let product : f * (leads.to - 1) ≡ f * (i - 1) + f * whole = rw place (mul-add f (i - 1) whole) in
    record { above = omega (arith, leads.ticks); below = omega (arith, leads.ticks) }

near_none : (f : ℕ) → 1 ≤ f → AreNear f 0 0
near_none f some = record { above = omega arith; below = omega arith }

near_after : (f : ℕ) (threshold : Threshold) (xs : List ℤ) (i : ℕ) (is : List ℕ) (m n : ℕ) → 1 ≤ f
    → is_crossing threshold xs i ≡ true →
    AreRising (is_crossing threshold xs) (i + 1) is →
    AreNear f (sum (take n (drop m (gaps_after (moment f threshold xs i) (map (moment f threshold xs) is)))))
    (sum (take n (drop m (gaps_after (moment 1 threshold xs i) (map (moment 1 threshold xs) is)))))
near_after f threshold xs i is zero n some at rising =
    near f threshold xs i _ _ some at (leads f threshold xs i is n some at rising)
near_after f threshold xs i [] (suc m) zero some at rising = near_none f some
near_after f threshold xs i [] (suc m) (suc n) some at rising = near_none f some
near_after f threshold xs i (j ∷ js) (suc m) n some at rising = near_after f threshold xs j js m n some rising.1
    rising.2

near_of : (f : ℕ) (threshold : Threshold) (xs : List ℤ) (is : List ℕ) (m n : ℕ) → 1 ≤ f
    → AreRising (is_crossing threshold xs) 0 is →
    AreNear f (sum (take n (drop m (gaps (map (moment f threshold xs) is)))))
    (sum (take n (drop m (gaps (map (moment 1 threshold xs) is)))))
near_of f threshold xs [] zero zero some rising = near_none f some
near_of f threshold xs [] zero (suc n) some rising = near_none f some
near_of f threshold xs [] (suc m) zero some rising = near_none f some
near_of f threshold xs [] (suc m) (suc n) some rising = near_none f some
near_of f threshold xs (i ∷ is) m n some rising = near_after f threshold xs i is m n some rising.1 rising.2

pub sums_near : (f : ℕ) (threshold : Threshold) (xs : List ℤ) (m n : ℕ) → 1 ≤ f →
    (sum (take n (drop m (distances f threshold xs))) ≤ f * sum (take n (drop m (distances 1 threshold xs))) + (f - 1))
    × (f * sum (take n (drop m (distances 1 threshold xs))) ≤ sum (take n (drop m (distances f threshold xs)))
    + (f - 1))
sums_near f threshold xs m n some =
    let are = near_of f threshold xs (crossings threshold xs) m n some (crossings-rise threshold xs) in
    (are.above, are.below)
