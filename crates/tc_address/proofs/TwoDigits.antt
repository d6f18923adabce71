-- The table has the digits of each number below a hundred.
use Rattle.std.proofs.Common.{◌≡◌, ℕ, zero, suc, ◌+◌, ◌-◌, ◌*◌, ◌/◌, ◌%◌, ◌<◌, Bool, true, ◌&&◌, ◌==◌, slice_index_or}
use Rattle.std.proofs.Common.{inl, inr, arith, eq-zero-or-pos, refl}
use Rattle.std.proofs.lemmas.Bool.Decides.{nat_tests}
use Rattle.tc_address.specs.declared.digits.TheConstants.{PAIRS}

-- those of the numbers below this one
abbrev are_digits : ℕ → Bool
are_digits zero = true
are_digits (suc n) = ((slice_index_or PAIRS (2 * n) 0 == 48 + n / 10)
    && (slice_index_or PAIRS (2 * n + 1) 0 == 48 + n % 10)) && are_digits n

below : (n number : ℕ) → are_digits n ≡ true → number < n
    → (slice_index_or PAIRS (2 * number) 0 ≡ 48 + number / 10)
    × (slice_index_or PAIRS (2 * number + 1) 0 ≡ 48 + number % 10)
below zero number are less = absurd (omega arith)
below (suc n) number are less =
    elim (eq-zero-or-pos (n - number)) [
      | inl last ↦ let is : number ≡ n = omega arith in rw is (grind (arith, nat_tests))
      | inr lower ↦ below n number (grind (arith, nat_tests)) (omega arith)
    ]

pub digits_at : (number : ℕ) → number < 100
    → (slice_index_or PAIRS (2 * number) 0 ≡ 48 + number / 10)
    × (slice_index_or PAIRS (2 * number + 1) 0 ≡ 48 + number % 10)
digits_at number small = below 100 number refl small
