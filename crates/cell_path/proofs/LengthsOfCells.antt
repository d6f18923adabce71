-- Each length in the list is from 4 to 96 steps.
use Rattle.std.proofs.Common.{◌≡◌, ◌⊎◌, inl, inr, ℕ, zero, suc, ◌+◌, ◌-◌, ◌<◌, ◌≤◌, Bool, true, false, ◌&&◌, List, []}
use Rattle.std.proofs.Common.{◌∷◌, length, get_or, refl, subst, arith}
use Rattle.std.specs.Prelude.{nat_le}
use Rattle.std.proofs.lemmas.Bool.Decides.{nat_tests}
use Rattle.cell_path.specs.declared.lengths.TheConstants.{LENGTHS}
use Rattle.cell_path.specs.Lengths.{length_in, IsEven}

-- all lengths are in range
abbrev in_range : List ℕ → Bool
in_range [] = true
in_range (n ∷ more) = nat_le 4 n && (nat_le n 96 && in_range more)

both : (a b : Bool) → (a && b) ≡ true → (a ≡ true) × (b ≡ true)
both true true h = (refl, refl)
both true false h = (refl, h)
both false b h = (h, absurd (cc))

in_range-at : (lengths : List ℕ) (place : ℕ) → in_range lengths ≡ true → place < length lengths
    → (4 ≤ get_or lengths place 0) × (get_or lengths place 0 ≤ 96)
in_range-at [] place all within = absurd (omega arith)
in_range-at (n ∷ more) zero all within =
    let a = both (nat_le 4 n) (nat_le n 96 && in_range more) all in
    let b = both (nat_le n 96) (in_range more) a.1 in
    let low = a.0 in let high = b.0 in (grind (arith, nat_tests), grind (arith, nat_tests))
in_range-at (n ∷ more) (suc place) all within =
    let a = both (nat_le 4 n) (nat_le n 96 && in_range more) all in
    let b = both (nat_le n 96) (in_range more) a.1 in
    in_range-at more place b.1 (omega arith)

pub length_bounds : (place : ℕ) → place < 45 → (4 ≤ length_in LENGTHS place) × (length_in LENGTHS place ≤ 96)
length_bounds place within = in_range-at LENGTHS place refl within

-- so many lengths from a place on are each by the same above the one before
abbrev pub evenly : ℕ → ℕ → ℕ → Bool
evenly rise from zero = true
evenly rise from (suc n) =
    nat_le (length_in LENGTHS (from + n)) (length_in LENGTHS (from + n - 1) + rise)
    && (nat_le (length_in LENGTHS (from + n - 1) + rise) (length_in LENGTHS (from + n)) && evenly rise from n)

even-at : (rise from count place : ℕ) → evenly rise from count ≡ true → place < count
    → length_in LENGTHS (from + place) ≡ length_in LENGTHS (from + place - 1) + rise
even-at rise from zero place all none = absurd (omega arith)
even-at rise from (suc n) place all within =
    let low = nat_le (length_in LENGTHS (from + n)) (length_in LENGTHS (from + n - 1) + rise) in
    let high = nat_le (length_in LENGTHS (from + n - 1) + rise) (length_in LENGTHS (from + n)) in
    let a = both low (high && evenly rise from n) all in
    let b = both high (evenly rise from n) a.1 in
    let cases : (place < n) ⊎ (n ≡ place) = grind arith in
    elim cases [
      | inl less ↦ even-at rise from n place b.1 less
      | inr same ↦
          let one = a.0 in
          let two = b.0 in
          let here : length_in LENGTHS (from + n) ≡ length_in LENGTHS (from + n - 1) + rise =
          grind (arith, nat_tests) in
          subst (λ k. length_in LENGTHS (from + k) ≡ length_in LENGTHS (from + k - 1) + rise) same here
    ]

pub is_even : (rise from to : ℕ) → evenly rise from (to + 1 - from) ≡ true → IsEven rise from to
is_even rise from to all place low high =
    let at : from + (place - from) ≡ place = omega (arith, low) in
    subst (λ k. length_in LENGTHS k ≡ length_in LENGTHS (k - 1) + rise) at
    (even-at rise from (to + 1 - from) (place - from) all (omega (arith, low, high)))
