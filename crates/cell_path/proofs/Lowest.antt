-- What is kept of a sum, a difference or a product comes from what is kept of its parts, and of two near numbers it
-- tells which is the greater.
use Rattle.std.proofs.Common.{◌≡◌, ℕ, zero, suc, ◌+◌, ◌-◌, ◌*◌, ◌%◌, ◌^◌, ◌<◌, ◌≤◌, ℤ, pos, neg_ℤ, ◌+ℤ◌, ◌-ℤ◌, ◌*ℤ◌}
use Rattle.std.proofs.Common.{◌≤ℤ◌, ◌<ℤ◌, ◌⊎◌, inl, inr, List, [], ◌∷◌, ap, ap₂, sym, ◌∙◌, arith, FitsSigned, to_z-of_z}
use Rattle.std.proofs.Math.Nat.{mul_comm}
use Rattle.std.specs.Int.{w32, cast_signed, cast_unsigned, int_wrap}
use Rattle.std.proofs.lemmas.Int.{ints, fits_signed_from_abs, int_wrap-add_left, int_wrap-add_right, int_wrap-mul_left}
use Rattle.std.proofs.lemmas.Int.{int_wrap-sub_right, int_wrap_fits, of_z-to_z, wrapping_add-bits, wrapping_mul-bits}
use Rattle.std.proofs.lemmas.Int.{wrapping_sub-bits, SFits-int_wrap}
use Rattle.cell_path.specs.Four.{at_step, low, AreNear}

-- it has 32 bits
pub low_fits : (x : ℤ) → low x < 2 ^ 32
low_fits x = let f = SFits-int_wrap w32 x in omega (arith, ints)

-- and with a sign it is the number, but for a multiple of 2^32
signed_low : (x : ℤ) → cast_signed w32 (low x) ≡ int_wrap w32 x
signed_low x = to_z-of_z (SFits-int_wrap w32 x)

pub low-plus : (x y : ℤ) → (low x + low y) % 2 ^ 32 ≡ low (x +ℤ y)
low-plus x y =
    sym (of_z-to_z w32 ((low x + low y) % 2 ^ 32) (omega arith))
    ∙ ap (cast_unsigned w32) (wrapping_add-bits w32 (low x) (low y) (low_fits x) (low_fits y)
    ∙ ap₂ (λ a b. int_wrap w32 (a +ℤ b)) (signed_low x) (signed_low y)
    ∙ int_wrap-add_left w32 x (int_wrap w32 y) ∙ int_wrap-add_right w32 x y)

-- what the difference is, with a sign
signed_minus : (x y : ℤ) → cast_signed w32 ((low x + (2 ^ 32 - low y)) % 2 ^ 32) ≡ int_wrap w32 (x -ℤ y)
signed_minus x y =
    wrapping_sub-bits w32 (low x) (low y) (low_fits x) (low_fits y)
    ∙ ap₂ (λ a b. int_wrap w32 (a -ℤ b)) (signed_low x) (signed_low y)
    ∙ int_wrap-sub_right w32 (int_wrap w32 x) y ∙ int_wrap-add_left w32 x (neg_ℤ y)

pub low-minus : (x y : ℤ) → (low x + (2 ^ 32 - low y)) % 2 ^ 32 ≡ low (x -ℤ y)
low-minus x y =
    sym (of_z-to_z w32 ((low x + (2 ^ 32 - low y)) % 2 ^ 32) (omega arith)) ∙ ap (cast_unsigned w32) (signed_minus x y)

pub low-times : (x : ℤ) (by : ℕ) → by < 2 ^ 31 → (low x * by) % 2 ^ 32 ≡ low (x *ℤ pos by)
low-times x by few =
    let same : cast_signed w32 by ≡ pos by = omega (arith, ints) in
    sym (of_z-to_z w32 ((low x * by) % 2 ^ 32) (omega arith))
    ∙ ap (cast_unsigned w32) (wrapping_mul-bits w32 (low x) by (low_fits x) (omega (arith, few))
    ∙ ap₂ (λ a b. int_wrap w32 (a *ℤ b)) (signed_low x) same
    ∙ int_wrap-mul_left w32 x (pos by))

-- so many times a natural
pub low-times_natural : (n by : ℕ) → by < 2 ^ 31 → (low (pos n) * by) % 2 ^ 32 ≡ low (pos (by * n))
low-times_natural n by few = low-times (pos n) by few ∙ ap (λ m. low (pos m)) (mul_comm n by)

-- a natural that is not too great is kept whole
pub low_small : (n : ℕ) → n < 2 ^ 31 → n ≡ low (pos n)
low_small n few =
    let f : FitsSigned w32 (pos n) = grind (arith, ints, fits_signed_from_abs) in
    sym (ap (cast_unsigned w32) (int_wrap_fits w32 (pos n) f))

-- a number of 32 bits with a sign is kept whole
pub low_fits_signed : (x : ℤ) → FitsSigned w32 x → cast_unsigned w32 x ≡ low x
low_fits_signed x f = ap (cast_unsigned w32) (sym (int_wrap_fits w32 x f))

-- and so is the difference of two near numbers
near_difference : (x y : ℤ) → AreNear x y → cast_signed w32 ((low x + (2 ^ 32 - low y)) % 2 ^ 32) ≡ x -ℤ y
near_difference x y near =
    let a = near.above in let b = near.below in
    let f : FitsSigned w32 (x -ℤ y) = grind (arith, ints, fits_signed_from_abs) in
    signed_minus x y ∙ int_wrap_fits w32 (x -ℤ y) f

pub less_yes : (x y : ℤ) → AreNear x y → 2 ^ 31 ≤ (low x + (2 ^ 32 - low y)) % 2 ^ 32 → x <ℤ y
less_yes x y near is =
    let e = near_difference x y near in
    let cases : (y ≤ℤ x) ⊎ (x <ℤ y) = grind (arith, ints) in
    elim cases [
      | inr less ↦ less
      | inl more ↦
          let a = near.above in
          let n = (low x + (2 ^ 32 - low y)) % 2 ^ 32 in
          let back : cast_unsigned w32 (x -ℤ y) ≡ n =
          sym (ap (cast_unsigned w32) e) ∙ of_z-to_z w32 n (omega arith) in
          let small : cast_unsigned w32 (x -ℤ y) ≤ 2 ^ 31 - 1 = omega (arith, ints, more, a) in
          absurd (omega (arith, back, small, is))
    ]

pub less_no : (x y : ℤ) → AreNear x y → (low x + (2 ^ 32 - low y)) % 2 ^ 32 < 2 ^ 31 → y ≤ℤ x
less_no x y near is = let e = near_difference x y near in omega (arith, ints, e, is)

-- a fact of four steps
pub at_each_step : (P : ℕ → Type 0) → P 0 → P 1 → P 2 → P 3 → (step : ℕ) → step < 4 → P step
at_each_step P a b c d zero within = a
at_each_step P a b c d (suc zero) within = b
at_each_step P a b c d (suc (suc zero)) within = c
at_each_step P a b c d (suc (suc (suc zero))) within = d
at_each_step P a b c d (suc (suc (suc (suc step)))) within = absurd (omega arith)

-- what a function makes of the numbers of each step
pub zipped : (f : ℕ → ℕ → ℕ) (a b : List ℕ) (m n r : ℕ) → f m n ≡ r → (step : ℕ) → step < 4 → at_step a step ≡ m
    → at_step b step ≡ n
    → at_step (f (at_step a 0) (at_step b 0) ∷ f (at_step a 1) (at_step b 1) ∷ f (at_step a 2) (at_step b 2)
    ∷ f (at_step a 3) (at_step b 3) ∷ []) step ≡ r
zipped f a b m n r is zero within p q = ap₂ f p q ∙ is
zipped f a b m n r is (suc zero) within p q = ap₂ f p q ∙ is
zipped f a b m n r is (suc (suc zero)) within p q = ap₂ f p q ∙ is
zipped f a b m n r is (suc (suc (suc zero))) within p q = ap₂ f p q ∙ is
zipped f a b m n r is (suc (suc (suc (suc step)))) within p q = absurd (omega arith)
