-- The lengths stand in the list by size: each is four steps or more, and below those behind it.
use Rattle.std.proofs.Common.{◌≡◌, ℕ, zero, suc, ◌+◌, ◌<◌, ◌≤◌, ◌⊎◌, inl, inr, Bool, true, ◌&&◌}
use Rattle.std.proofs.Common.{nat_le, List, [], ◌∷◌, length, get_or, refl, ap, arith}
use Rattle.std.proofs.lemmas.Bool.{and_parts}
use Rattle.std.proofs.lemmas.Bool.Decides.{nat_tests}
use Rattle.cell_path.specs.declared.lengths.TheConstants.{LENGTHS}
use Rattle.cell_path.specs.Lengths.{length_in}

-- from this number on, each is above the one before
abbrev rise : ℕ → List ℕ → Bool
rise least [] = true
rise least (n ∷ more) = nat_le least n && rise (n + 1) more

rise-least : (least : ℕ) (lengths : List ℕ) (place : ℕ) → rise least lengths ≡ true → place < length lengths
    → least ≤ get_or lengths place 0
rise-least least [] place all within = absurd (omega arith)
rise-least least (n ∷ more) zero all within =
    let a = (and_parts (nat_le least n) (rise (n + 1) more) all).0 in grind (arith, nat_tests)
rise-least least (n ∷ more) (suc place) all within =
    let a = and_parts (nat_le least n) (rise (n + 1) more) all in
    let first = a.0 in
    let above = rise-least (n + 1) more place a.1 (omega arith) in
    let low : least ≤ n = grind (arith, nat_tests) in
    omega (arith, low, above)

rise-apart : (least : ℕ) (lengths : List ℕ) (place other : ℕ) → rise least lengths ≡ true → place < other
    → other < length lengths → get_or lengths place 0 < get_or lengths other 0
rise-apart least [] place other all before within = absurd (omega arith)
rise-apart least (n ∷ more) place zero all before within = absurd (omega arith)
rise-apart least (n ∷ more) zero (suc other) all before within =
    let above = rise-least (n + 1) more other (and_parts (nat_le least n) (rise (n + 1) more) all).1 (omega arith) in
    omega (arith, above)
rise-apart least (n ∷ more) (suc place) (suc other) all before within =
    rise-apart (n + 1) more place other (and_parts (nat_le least n) (rise (n + 1) more) all).1 (omega arith)
    (omega arith)

pub length_least : (place : ℕ) → place < 45 → 4 ≤ length_in LENGTHS place
length_least place within = rise-least 4 LENGTHS place refl within

-- each is as long as the longest at most
abbrev below : List ℕ → Bool
below [] = true
below (n ∷ more) = nat_le n 96 && below more

below-most : (lengths : List ℕ) (place : ℕ) → below lengths ≡ true → get_or lengths place 0 ≤ 96
below-most [] place all = omega arith
below-most (n ∷ more) zero all =
    let a = (and_parts (nat_le n 96) (below more) all).0 in grind (arith, nat_tests)
below-most (n ∷ more) (suc place) all = below-most more place (and_parts (nat_le n 96) (below more) all).1

pub length_most : (place : ℕ) → place < 45 → length_in LENGTHS place ≤ 96
length_most place within = below-most LENGTHS place refl

pub lengths_apart : (place other : ℕ) → place < other → other < 45
    → length_in LENGTHS place < length_in LENGTHS other
lengths_apart place other before within = rise-apart 4 LENGTHS place other refl before within

order : (a b : ℕ) → (a < b) ⊎ (b ≤ a)
order a b = grind arith

behind_or_same : (a b : ℕ) → b ≤ a → (a ≡ b) ⊎ (b < a)
behind_or_same a b h = grind arith

-- a greater length stands in a later place, and the same one in the same
pub later_place : (place other : ℕ) → place < 45 → other < 45
    → length_in LENGTHS place < length_in LENGTHS other → place < other
later_place place other one two above = elim (order place other) [
  | inl before ↦ before
  | inr behind ↦ elim (behind_or_same place other behind) [
    | inl same ↦ absurd (omega (arith, ap (length_in LENGTHS) same))
    | inr after ↦ absurd (omega (arith, lengths_apart other place after one))
  ]
]

pub same_place : (place other : ℕ) → place < 45 → other < 45
    → length_in LENGTHS place ≡ length_in LENGTHS other → place ≡ other
same_place place other one two same = elim (order place other) [
  | inl before ↦ absurd (omega (arith, lengths_apart place other before two))
  | inr behind ↦ elim (behind_or_same place other behind) [
    | inl is ↦ is
    | inr after ↦ absurd (omega (arith, lengths_apart other place after one))
  ]
]
