-- The mean of numbers of 16 bits has 16 bits.
use Rattle.std.proofs.Common.{◌≡◌, ℕ, zero, suc, ◌*◌, ◌/◌, ◌<◌, ◌≤◌, ℤ, pos, negsuc, neg_ℤ, refl, subst, sym, arith}
use Rattle.std.specs.Prelude.{int_div, unsigned_abs}
use Rattle.std.proofs.Math.Nat.{div-le_of_le-mul}

size_of_negative : (n : ℕ) → unsigned_abs (neg_ℤ (pos n)) ≡ n
size_of_negative zero = refl
size_of_negative (suc n) = refl

-- a quotient is no greater than the mean of the sizes
pub mean_within : (number : ℤ) (many most : ℕ) → 0 < many → unsigned_abs number ≤ many * most
    → unsigned_abs (int_div number (pos many)) ≤ most
mean_within (pos number) zero most some within = absurd (omega arith)
mean_within (pos number) (suc many) most some within = div-le_of_le-mul (suc many) within
mean_within (negsuc number) zero most some within = absurd (omega arith)
mean_within (negsuc number) (suc many) most some within =
    subst (λ n. n ≤ most) (sym (size_of_negative (suc number / suc many))) (div-le_of_le-mul (suc many) within)
