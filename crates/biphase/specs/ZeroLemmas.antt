-- A law of chains, for the proofs of the crates above: in the intervals of a chain the greater one of an unequal pair
-- is a zero. All of this is proved here, and no promise rests on it.
use Rattle.std.proofs.Common.{◌≡◌, ℕ, zero, suc, ◌+◌, ◌<◌, List, [], ◌∷◌, length, drop, refl, ap, arith}
use Rattle.std.proofs.Common.{length-append}
use Rattle.std.proofs.Math.Seq.{drop-nil}
use Rattle.biphase.specs.declared.profile.Profile.{Profile}
use Rattle.biphase.specs.declared.cell.Cell.{Cell}
use Rattle.biphase.specs.declared.cell.Cell.TheVariants.{Zero, One}
use Rattle.biphase.specs.Pair.{AreEqual, AreUnequal}
use Rattle.biphase.specs.Chain.{intervals_of, flat, IsChain, Kinds}
use Rattle.biphase.specs.KindLemmas.{chain_kinds, kinds_first, kinds_rest}
use Rattle.biphase.specs.Zeros.{IsZeroAt, GreaterIsZero}

-- an equal pair is not unequal
equal_at : (profile : Profile) (x y a b : ℕ) → AreEqual profile x y → x ≡ a → y ≡ b → AreUnequal profile a b → ⊥
equal_at profile x y a b equal first second unequal = unequal.0 (rw (← first, ← second) equal)

-- a zero with one cell more before it
zero_on : (cell : Cell) (cells : List Cell) (k there x : ℕ) → length (intervals_of cell) + k ≡ there
    → IsZeroAt cells k x
    → IsZeroAt (cell ∷ cells) there x
zero_on cell cells k there x at is = record {
  before = cell ∷ is.before;
  after = is.after;
  are = ap (λ (cs : List Cell). cell ∷ cs) is.are;
  place = omega (arith, length-append (intervals_of cell) (flat is.before), is.place, at);
}

-- no pair stands in a list of fewer intervals
too_short : (k a b : ℕ) (rest : List ℕ) → drop k [] ≡ a ∷ b ∷ rest → ⊥
too_short k a b rest there = omega (arith, ap length there, ap length (drop-nil {A = ℕ} k))

pub greater_by_kinds : (profile : Profile) (cells : List Cell) (k a b : ℕ) (rest : List ℕ) → Kinds profile cells
    → drop k (flat cells) ≡ a ∷ b ∷ rest → AreUnequal profile a b → GreaterIsZero cells k a b
greater_by_kinds profile [] k a b rest kinds there unequal = absurd (too_short k a b rest there)
greater_by_kinds profile (Zero x ∷ []) zero a b rest kinds there unequal = absurd (omega (arith, ap length there))
greater_by_kinds profile (Zero x ∷ Zero y ∷ more) zero a b rest kinds there unequal =
    let first : x ≡ a = cc in
    let second : y ≡ b = cc in
    absurd (equal_at profile x y a b kinds.1 first second unequal)
greater_by_kinds profile (Zero x ∷ One y z ∷ more) zero a b rest kinds there unequal =
    let first : x ≡ a = cc in
    let second : y ≡ b = cc in
    let falls : y < x = kinds.1.1 in (
      λ rises. absurd (omega arith),
      λ _. record { before = []; after = One y z ∷ more; are = ap (λ v. Zero v ∷ One y z ∷ more) first; place = refl },
    )
greater_by_kinds profile (Zero x ∷ more) (suc k) a b rest kinds there unequal =
    let inner = greater_by_kinds profile more k a b rest (kinds_rest profile (Zero x) more kinds) there unequal in (
      λ rises. zero_on (Zero x) more (k + 1) (suc k + 1) b (omega arith) (inner.0 rises),
      λ falls. zero_on (Zero x) more k (suc k) a (omega arith) (inner.1 falls),
    )
greater_by_kinds profile (One x y ∷ more) zero a b rest kinds there unequal =
    let first : x ≡ a = cc in
    let second : y ≡ b = cc in
    absurd (equal_at profile x y a b (kinds_first profile (One x y) more kinds) first second unequal)
greater_by_kinds profile (One x y ∷ []) (suc zero) a b rest kinds there unequal =
    absurd (omega (arith, ap length there))
greater_by_kinds profile (One x y ∷ Zero z ∷ more) (suc zero) a b rest kinds there unequal =
    let first : y ≡ a = cc in
    let second : z ≡ b = cc in
    let rises : y < z = kinds.1.1 in (
      λ _. record { before = One x y ∷ []; after = more; are = ap (λ v. One x y ∷ Zero v ∷ more) second; place = refl },
      λ falls. absurd (omega arith),
    )
greater_by_kinds profile (One x y ∷ One z w ∷ more) (suc zero) a b rest kinds there unequal =
    let first : y ≡ a = cc in
    let second : z ≡ b = cc in
    absurd (equal_at profile y z a b kinds.1 first second unequal)
greater_by_kinds profile (One x y ∷ more) (suc (suc k)) a b rest kinds there unequal =
    let inner = greater_by_kinds profile more k a b rest (kinds_rest profile (One x y) more kinds) there unequal in (
      λ rises. zero_on (One x y) more (k + 1) (suc (suc k) + 1) b (omega arith) (inner.0 rises),
      λ falls. zero_on (One x y) more k (suc (suc k)) a (omega arith) (inner.1 falls),
    )

-- in a chain the greater interval of an unequal pair is a zero
pub greater_is_zero : (profile : Profile) (cells : List Cell) (k a b : ℕ) (rest : List ℕ) → IsChain profile cells
    → drop k (flat cells) ≡ a ∷ b ∷ rest → AreUnequal profile a b → GreaterIsZero cells k a b
greater_is_zero profile cells k a b rest chain there unequal =
    greater_by_kinds profile cells k a b rest (chain_kinds profile cells chain) there unequal
