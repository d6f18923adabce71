-- When a decision falls due, and which is the latest.
use Rattle.std.proofs.Common.{◌≡◌, ℕ, suc, ◌-◌, ◌%◌, ◌==◌, ◌<◌, ◌≤◌, ◌⊎◌, inl, inr}
use Rattle.std.proofs.Common.{Bool, true, false}
use Rattle.std.proofs.Common.{◌&&◌, cond, leb, refl, ap, ap₂, subst, sym, ◌∙◌, arith}
use Rattle.std.proofs.lemmas.Bool.{false≢true}
use Rattle.std.proofs.lemmas.Bool.Decides.{nat_tests}
use Rattle.cell_path.specs.declared.follow.TheConstants.{FIRST}
use Rattle.cell_path.specs.Decided.{is_due}
use Rattle.path_truth.specs.SoFar.{latest_decision}

-- ---- when a decision falls due

both-of : (a b : Bool) → (a && b) ≡ true → (a ≡ true) × (b ≡ true)
both-of true true is = (refl, refl)
both-of true false is = absurd cc
both-of false b is = absurd cc

is-zero : (a : ℕ) → (a == 0) ≡ true → a ≡ 0
is-zero a is = grind (arith, nat_tests)

is-most : (a b : ℕ) → leb a b ≡ true → a ≤ b
is-most a b is = grind (arith, nat_tests)

pub due-first : (count : ℕ) → is_due count ≡ true → FIRST ≤ count
due-first count is = is-most FIRST count (both-of (leb FIRST count) (count % 1_024 == 0) is).0

due-every : (count : ℕ) → is_due count ≡ true → count % 1_024 ≡ 0
due-every count is = is-zero (count % 1_024) (both-of (leb FIRST count) (count % 1_024 == 0) is).1

-- ---- the latest decision

at-most : (a b : ℕ) → a ≤ b → leb a b ≡ true
at-most a b is = grind (arith, nat_tests)

above : (a b : ℕ) → b < a → leb a b ≡ false
above a b is = grind (arith, nat_tests)

latest-late : (count : ℕ) → 2_048 ≤ count → latest_decision count ≡ count - count % 1_024
latest-late count late = ap (λ (b : Bool). cond b (count - count % 1_024) 0) (at-most 2_048 count late)

latest-early : (count : ℕ) → count < 2_048 → latest_decision count ≡ 0
latest-early count early = ap (λ (b : Bool). cond b (count - count % 1_024) 0) (above 2_048 count early)

early-or-late : (count : ℕ) → (2_048 ≤ count) ⊎ (count < 2_048)
early-or-late count = grind arith

pub latest-due : (count : ℕ) → is_due count ≡ true → latest_decision count ≡ count
latest-due count is =
    let every = due-every count is in
    let all : count - count % 1_024 ≡ count = omega (arith, every) in
    latest-late count (due-first count is) ∙ all

pub latest-most : (count : ℕ) → latest_decision count ≤ count
latest-most count = elim (early-or-late count) [
  | inl late ↦ subst (λ n. n ≤ count) (sym (latest-late count late)) (omega arith)
  | inr early ↦ subst (λ n. n ≤ count) (sym (latest-early count early)) (omega arith)
]

not-every : (count : ℕ) → 2_048 ≤ count → is_due count ≡ false → count % 1_024 ≡ 0 → ⊥
not-every count late is every =
    let test : (count % 1_024 == 0) ≡ true = grind (arith, nat_tests) in
    false≢true (sym is ∙ ap₂ (λ a b. a && b) (at-most 2_048 count late) test)

some-rest : (count : ℕ) → 2_048 ≤ count → is_due count ≡ false → 0 < count % 1_024
some-rest count late is =
    let cases : (count % 1_024 ≡ 0) ⊎ (0 < count % 1_024) = grind arith in
    elim cases [ inl every ↦ absurd (not-every count late is every) | inr some ↦ some ]

-- it stays where none falls due
pub latest-stays : (count : ℕ) → is_due (suc count) ≡ false → latest_decision (suc count) ≡ latest_decision count
latest-stays count is = elim (early-or-late (suc count)) [
  | inl late ↦
      let some = some-rest (suc count) late is in
      let still : 2_048 ≤ count = omega (arith, late, some) in
      let same : suc count - suc count % 1_024 ≡ count - count % 1_024 = omega (arith, some) in
      latest-late (suc count) late ∙ same ∙ sym (latest-late count still)
  | inr early ↦ latest-early (suc count) early ∙ sym (latest-early count (omega (arith, early)))
]
