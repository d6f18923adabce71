-- Where all are clear each is.
use Rattle.std.proofs.Common.{◌≡◌, ℕ, zero, suc, ◌*◌, ◌<◌, ◌≤◌, ◌⊎◌, inl, inr, Bool, true, false, ◌&&◌, sym, subst}
use Rattle.std.proofs.Common.{arith}
use Rattle.std.proofs.lemmas.Bool.Decides.{nat_tests}
use Rattle.std.specs.Prelude.{unsigned_abs, leb}
use Rattle.luma_row.specs.declared.levels.Levels.{Levels}
use Rattle.luma_row.specs.Choice.{all_of}
use Rattle.luma_row.specs.Levels.{height_at, is_clear, is_one, says_bits}

both : (a b : Bool) → (a && b) ≡ true → (a ≡ true) × (b ≡ true)
both true true is = (is, is)
both true false is = absurd (cc)
both false b is = absurd (cc)

each : (n : ℕ) (p : ℕ → Bool) (k : ℕ) → all_of n p ≡ true → k < n → p k ≡ true
unfolding all_of
each zero p k all h = absurd (omega arith)
each (suc n) p k all h =
    let parts = both (all_of n p) (p n) all in
    let cases : (k < n) ⊎ (k ≡ n) = grind arith in
    elim cases [
      | inl less ↦ each n p k parts.0 less
      | inr same ↦ subst (λ m. p m ≡ true) (sym same) parts.1
    ]

pub said_is_clear : (levels : Levels) (bit : ℕ) → says_bits levels ≡ true → bit < 90
    → 10 * levels.swing ≤ 9 * unsigned_abs (height_at levels bit)
said_is_clear levels bit said h =
    let parts = both (is_one levels 0) (all_of 90 (is_clear levels)) said in
    let clear : leb (10 * levels.swing) (9 * unsigned_abs (height_at levels bit)) ≡ true =
    each 90 (is_clear levels) bit parts.1 h in
    grind (arith, nat_tests)
