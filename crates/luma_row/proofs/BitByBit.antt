-- With one bit more all are clear where this one is too, and the number of the last bits is doubled.
use Rattle.std.proofs.Common.{◌≡◌, ℕ, zero, suc, ◌+◌, ◌-◌, ◌*◌, ◌^◌, ◌<◌, ◌≤◌, Bool, true, false, cond, ◌&&◌, ◌||◌}
use Rattle.std.proofs.Common.{◌⊎◌, inl, inr, refl, ap, subst, ◌∙◌, arith}
use Rattle.std.proofs.Math.Nat.{pow-suc}
use Rattle.std.proofs.Math.Pow.{pow_mono}
use Rattle.luma_row.specs.declared.levels.Levels.{Levels}
use Rattle.luma_row.specs.Choice.{all_of, any_of}
use Rattle.luma_row.specs.Levels.{is_one, last_bits}

pub all_of_more : (n : ℕ) (p : ℕ → Bool) → all_of (n + 1) p ≡ (all_of n p && p n)
unfolding all_of
all_of_more n p = let e : n + 1 ≡ suc n = omega arith in rw e refl

and_not : (a b : Bool) → b ≡ false → (a && b) ≡ false
and_not true b isnt = isnt
and_not false b isnt = refl

pub all_of_none : (p : ℕ → Bool) → all_of 0 p ≡ true
unfolding all_of
all_of_none p = refl

-- where one is not clear, not all are
pub not_all : (n : ℕ) (p : ℕ → Bool) (k : ℕ) → k < n → p k ≡ false → all_of n p ≡ false
unfolding all_of
not_all zero p k h isnt = absurd (omega arith)
not_all (suc n) p k h isnt =
    let cases : (k < n) ⊎ (k ≡ n) = grind arith in
    elim cases [
      | inl less ↦ ap (λ (b : Bool). b && p n) (not_all n p k less isnt)
      | inr same ↦ and_not (all_of n p) (p n) (subst (λ (m : ℕ). p m ≡ false) same isnt)
    ]

pub any_of_more : (n : ℕ) (p : ℕ → Bool) → any_of (n + 1) p ≡ (any_of n p || p n)
unfolding any_of
any_of_more n p = let e : n + 1 ≡ suc n = omega arith in rw e refl

pub any_of_none : (p : ℕ → Bool) → any_of 0 p ≡ false
unfolding any_of
any_of_none p = refl

pub last_bits_more : (n : ℕ) (levels : Levels)
    → last_bits (n + 1) levels ≡ 2 * last_bits n levels + cond (is_one levels (89 - n)) 1 0
unfolding last_bits
last_bits_more n levels = let e : n + 1 ≡ suc n = omega arith in rw e refl

pub last_bits_none : (levels : Levels) → last_bits 0 levels ≡ 0
unfolding last_bits
last_bits_none levels = refl

pub twice_fits : (n bits one : ℕ) → n < 90 → bits < 2 ^ n → one ≤ 1 → 2 * bits + one < 2 ^ (n + 1)
twice_fits n bits one h fits few = let s : n + 1 ≡ suc n = omega arith in
    let e : 2 ^ (n + 1) ≡ 2 ^ n * 2 = ap (λ (m : ℕ). 2 ^ m) s ∙ pow-suc 2 n in omega (arith, e)

pub width_fits : (n bits : ℕ) → n ≤ 90 → bits < 2 ^ n → bits < 2 ^ 90
width_fits n bits h fits = let m : 2 ^ n ≤ 2 ^ 90 = pow_mono h in omega (arith, m)
