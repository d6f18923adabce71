-- The remainder of a draw by an odd divisor, by a product and a shift with the factor that is in a table.
use Rattle.std.proofs.Common.{◌≡◌, ℕ, ◌+◌, ◌-◌, ◌*◌, ◌/◌, ◌%◌, ◌^◌, ◌<◌, ◌≤◌, List, length, set, slice_index, sym, ap}
use Rattle.std.proofs.Common.{◌∙◌, arith, inl, inr}
use Rattle.std.proofs.Math.Nat.{div-mul-le_self, mod-eq-sub-div-mul}
use Rattle.std.proofs.lemmas.Nat.{mul-le}
use Rattle.std.proofs.lemmas.Bool.{cases_eq}
use Rattle.std.proofs.lemmas.List.{get_or-set_other, get_or-set_same}
use Rattle.made_commands.specs.KeptDivisors.{factor_of, AreBelow, AreFactors}
use Rattle.lemmas.specs.Quotients.{behind, by_product}

-- a quotient, and what the division leaves
pub record IsDivided (value divisor quotient : ℕ) : Type 0 where
  pub within : quotient * divisor ≤ value
  pub rest : value - quotient * divisor ≡ value % divisor
  pub below : value - quotient * divisor < divisor

is_divided : (value half factor : ℕ) → value < 2 ^ 44 → half ≤ 512 → factor ≡ factor_of (2 * half + 1)
    → IsDivided value (2 * half + 1) (value * factor / 2 ^ 64)
is_divided value half factor small most is =
    let d = 2 * half + 1 in
    let room : (value + 1) * d ≤ 2 ^ 44 * 2 ^ 11 = mul-le (value + 1) d (2 ^ 44) (2 ^ 11) (omega (arith, small))
    (omega (arith, most)) in
    let same : value * factor / 2 ^ 64 ≡ value / d =
    ap (λ (m : ℕ). value * m / 2 ^ 64) is ∙ by_product (2 ^ 64) value d (omega arith) (omega (arith, room)) in
    let high = behind value d (omega arith) in
    let one : (value / d + 1) * d ≡ value / d * d + d = grind arith in
    record {
      within = rw same (div-mul-le_self value d);
      rest = rw same (sym (mod-eq-sub-div-mul value d));
      below = rw same (omega (arith, high, one));
    }

-- by the factor that is in the table
pub by_table : (factors : List ℕ) (value half : ℕ) → AreFactors factors → value < 2 ^ 44 → 1 ≤ half → half ≤ 512
    → IsDivided value (2 * half + 1) (value * slice_index factors half / 2 ^ 64)
by_table factors value half are small least most =
    is_divided value half (slice_index factors half) small most (are half least (omega (arith, most)))

-- a factor more in the table
pub more_factors : (bound : ℕ) (factors : List ℕ) (factor : ℕ) → bound < length factors
    → factor ≡ factor_of (2 * bound + 1) → AreBelow bound factors
    → AreBelow (bound + 1) (set factors bound factor)
more_factors bound factors factor within is are = λ half some below.
    elim (cases_eq half bound) [
      | inl same ↦ rw same (get_or-set_same factors bound factor 0 within ∙ is)
      | inr other ↦ get_or-set_other factors bound half factor 0 other ∙ are half some (omega (arith, below, other))
    ]
