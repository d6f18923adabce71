-- The worked drawing has its sync pairs, as can be counted.
use Rattle.std.proofs.Common.{◌≡◌, ℕ, zero, suc, ◌+◌, ◌*◌, ◌<◌, ◌⊎◌, inl, inr, Bool, true}
use Rattle.std.proofs.Common.{false, not, ◌&&◌, refl, subst, sym, arith}
use Rattle.luma_row.specs.Choice.{all_of}
use Rattle.luma_truth.specs.Drawing.{has_bit, FitsARow}
use Rattle.luma_truth.specs.Worked.{ten_hours}

both : (a b : Bool) → (a && b) ≡ true → (a ≡ true) × (b ≡ true)
both true true is = (is, is)
both true false is = absurd (cc)
both false b is = absurd (cc)

pub each : (n : ℕ) (p : ℕ → Bool) (k : ℕ) → all_of n p ≡ true → k < n → p k ≡ true
unfolding all_of
each zero p k all h = absurd (omega arith)
each (suc n) p k all h =
    let parts = both (all_of n p) (p n) all in
    let cases : (k < n) ⊎ (k ≡ n) = grind arith in
    elim cases [
      | inl less ↦ each n p k parts.0 less
      | inr same ↦ subst (λ (m : ℕ). p m ≡ true) (sym same) parts.1
    ]

pub isnt : (b : Bool) → not b ≡ true → b ≡ false
isnt true is = absurd (cc)
isnt false is = refl

abbrev has_one : ℕ → Bool
has_one pair = has_bit ten_hours.word (10 * pair)

abbrev has_zero : ℕ → Bool
has_zero pair = not (has_bit ten_hours.word (10 * pair + 1))

have_ones : all_of 9 has_one ≡ true
unfolding all_of
have_ones = refl

have_zeros : all_of 9 has_zero ≡ true
unfolding all_of
have_zeros = refl

pub ten_hours_fits : FitsARow ten_hours 720
ten_hours_fits = record {
  bits = omega arith;
  ones = λ pair h. each 9 has_one pair have_ones h;
  zeros = λ pair h. isnt (has_bit ten_hours.word (10 * pair + 1)) (each 9 has_zero pair have_zeros h);
  levels = omega arith;
  white = omega arith;
  narrow = omega arith;
  wide = omega arith;
  within = omega arith;
}
