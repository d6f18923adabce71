-- A size of sixteen bits that stands 1023 higher has sixteen bits again, so vectors compute it without loss.
use Rattle.std.specs.Int.{w16, cast_unsigned}
use Rattle.std.specs.Simd.Lanes.{top}
use Rattle.std.proofs.Common.{FitsSigned, to_z, of_z, ◌≡◌, ℕ, ◌+◌, ◌-◌, ◌%◌, ◌<◌, ◌≤◌, ℤ, pos, negsuc, cond}
use Rattle.std.proofs.Common.{true, false, refl, ap, ◌∙◌, arith}
use Rattle.std.specs.Prelude.{int_lt, unsigned_abs}
use Rattle.std.proofs.lemmas.Int.{ints, of_z-to_z}
use Rattle.pcm_front.specs.Sizes.{raised_size}

-- the bits of a number with the other sign
abbrev turned : ℤ → ℕ
turned x = (0 + (65_536 - of_z w16 x)) % 65_536

-- the bits of its size
abbrev size_bits : ℤ → ℕ
size_bits x = cond (top 15 (cond (int_lt (to_z w16 (of_z w16 x)) (to_z w16 (turned x))) 65_535 0)) (turned x)
    (of_z w16 x)

few : (n : ℕ) → FitsSigned w16 (pos n) → n < 32_768
few n fits = fits.sfits

few_below : (n : ℕ) → FitsSigned w16 (negsuc n) → n < 32_768
few_below n fits = fits.sfits

above : (n : ℕ) → n < 32_768 → int_lt (to_z w16 n) (to_z w16 ((0 + (65_536 - n)) % 65_536)) ≡ false
above n less = grind (arith, ints)

below : (n : ℕ) → n < 32_767 → int_lt (to_z w16 (65_535 - n)) (to_z w16 ((0 + (65_536 - (65_535 - n))) % 65_536)) ≡ true
below n less = grind (arith, ints)

few_at_all : (x : ℤ) → FitsSigned w16 x → unsigned_abs x ≤ 32_768
few_at_all (pos n) fits = omega (arith, few n fits)
few_at_all (negsuc n) fits = omega (arith, few_below n fits)

size_of_bits : (x : ℤ) → FitsSigned w16 x → size_bits x ≡ unsigned_abs x
size_of_bits (pos n) fits = rw (above n (few n fits)) refl
size_of_bits (negsuc n) fits = grind (arith, ints)

pub raised_lane : (x : ℤ) → FitsSigned w16 x
    → cast_unsigned w16 (to_z w16 (of_z w16 (to_z w16 ((size_bits x + 1_023) % 65_536)))) ≡ raised_size x
raised_lane x fits =
    let bits = of_z-to_z w16 ((size_bits x + 1_023) % 65_536) (omega arith) in
    ap (λ n. cast_unsigned w16 (to_z w16 n)) bits ∙ bits
    ∙ ap (λ n. (n + 1_023) % 65_536) (size_of_bits x fits) ∙ (omega (arith, ints, few_at_all x fits))
