-- Laws of the tolerance, for the proofs of the crates above: a half lasts about half a cell and a zero a whole one, so
-- the tests never take one for the other. All of this is proved here, and no promise rests on it.
use Rattle.std.proofs.Common.{◌≡◌, ℕ, ◌*◌, ◌≤◌, ◌≢◌, ◌⊎◌, inl, inr, List, [], ◌∷◌, ◌++◌, refl, arith}
use Rattle.std.proofs.lemmas.Bool.{cases_lt}
use Rattle.biphase.specs.declared.cell.Cell.{Cell}
use Rattle.biphase.specs.declared.cell.Cell.TheVariants.{Zero, One}
use Rattle.biphase.specs.Latest.{Latest}
use Rattle.biphase.specs.declared.profile.Profile.{Profile}
use Rattle.biphase.specs.declared.profile.Profile.TheVariants.{Normal, Worn, Rough}
use Rattle.biphase.specs.declared.profile.Ratio.{Ratio}
use Rattle.biphase.specs.declared.profile.TheConstants.{NORMAL, WORN, ROUGH}
use Rattle.biphase.specs.Profile.{IsAtLeast, IsAtMost}
use Rattle.biphase.specs.Tolerance.{LooksAtLast, kept_at_lock, kept_next, sum_of}
use Rattle.biphase.specs.declared.pair.PairKind.{PairKind}
use Rattle.biphase.specs.declared.pair.PairKind.TheVariants.{Same, Step, Wild}
use Rattle.biphase.specs.Pair.{AreUnequal, IsKind}
use Rattle.biphase.specs.Tolerance.{length_of, IsFirstHalf}
use Rattle.biphase.specs.Chain.{Follow, FollowOn, FollowEachZero, IsChain, IsChainAfter, IsNextZero}
use Rattle.biphase.specs.Chain.{IsNextOne}

-- no interval is both a next zero and a next first half
pub zero_is_no_half : (profile : Profile) (latest : Latest) (x : ℕ) → 1 ≤ x → IsNextZero profile latest x
    → IsFirstHalf profile latest x → ⊥
zero_is_no_half Normal latest x tick zero half = omega arith
zero_is_no_half Worn latest x tick zero half = omega arith
zero_is_no_half Rough latest x tick zero half = omega arith

-- the first half of a one that follows passes the test of first halves
pub first_half : (profile : Profile) (latest : Latest) (x y : ℕ) → IsNextOne profile latest x y
    → IsFirstHalf profile latest x
first_half Normal latest x y one = (omega arith, omega arith)
first_half Worn latest x y one = (omega arith, omega arith)
first_half Rough latest x y one = one.0.0

-- a zero after a cell lasts a tick or more
pub zero_lasts : (profile : Profile) (latest : Latest) (x : ℕ) → 1 ≤ latest.last → IsNextZero profile latest x → 1 ≤ x
zero_lasts Normal latest x ticks zero = omega arith
zero_lasts Worn latest x ticks zero = omega arith
zero_lasts Rough latest x ticks zero = omega arith

-- so do the halves of a one
pub one_lasts : (profile : Profile) (latest : Latest) (x y : ℕ) → 1 ≤ latest.last → IsNextOne profile latest x y
    → (1 ≤ x) × (1 ≤ y)
one_lasts Normal latest x y ticks one = (omega arith, omega arith)
one_lasts Worn latest x y ticks one = (omega arith, omega arith)
one_lasts Rough latest x y ticks one = let first = one.0.0.0 in let second = one.0.1.0 in (omega arith, omega arith)

-- and so does a first half
pub half_lasts : (profile : Profile) (latest : Latest) (x : ℕ) → 1 ≤ latest.last → IsFirstHalf profile latest x → 1 ≤ x
half_lasts Normal latest x ticks half = omega arith
half_lasts Worn latest x ticks half = omega arith
half_lasts Rough latest x ticks half = let low = half.0 in omega arith

-- after a first cell of an unequal pair's greater interval the lesser is no zero
pub step_is_no_zero : (profile : Profile) (c x : ℕ) → AreUnequal profile c x
    → IsNextZero profile (kept_at_lock profile c) x → ⊥
step_is_no_zero Normal c x unequal zero = absurd (unequal.0 (omega arith))
step_is_no_zero Worn c x unequal zero = absurd (unequal.0 (omega arith))
step_is_no_zero Rough c x unequal zero = absurd (unequal.0 (omega arith))

-- the intervals of an unequal pair differ
pub unequal_differ : (profile : Profile) (a b : ℕ) → AreUnequal profile a b → a ≢ b
unequal_differ Normal a b unequal = omega arith
unequal_differ Worn a b unequal = omega arith
unequal_differ Rough a b unequal = omega arith

-- a length lies between two parts of another, or it does not
between_or_not : (low high : Ratio) (a b : ℕ)
    → (IsAtLeast low a b × IsAtMost high a b) ⊎ ¬ (IsAtLeast low a b × IsAtMost high a b)
between_or_not low high a b =
    elim (cases_lt (low.whole * a) (low.part * b)) [
      | inl below ↦ inr (λ both. omega (arith, both.0))
      | inr above ↦ elim (cases_lt (high.part * b) (high.whole * a)) [
        | inl past ↦ inr (λ both. omega (arith, both.1))
        | inr within ↦ inl (above, within)
      ]
    ]

-- an interval can be a first half, or it cannot
pub half_or_not : (profile : Profile) (latest : Latest) (x : ℕ)
    → IsFirstHalf profile latest x ⊎ ¬ IsFirstHalf profile latest x
half_or_not Normal latest x = between_or_not NORMAL.least_half NORMAL.greatest_half x latest.last
half_or_not Worn latest x = between_or_not WORN.least_half WORN.greatest_half x latest.last
half_or_not Rough latest x = between_or_not ROUGH.least_half ROUGH.greatest_half x (sum_of latest)

-- the length of the last cell is kept
pub last_at_lock : (profile : Profile) (c : ℕ) → (kept_at_lock profile c).last ≡ c
last_at_lock Normal c = refl
last_at_lock Worn c = refl
last_at_lock Rough c = refl

pub last_next : (profile : Profile) (latest : Latest) (c : ℕ) → (kept_next profile latest c).last ≡ c
last_next Normal latest c = refl
last_next Worn latest c = refl
last_next Rough latest c = refl

-- where the last cell alone is kept, what is kept after one cell more is what is kept at a lock there
pub kept_anew : (profile : Profile) → LooksAtLast profile → (latest : Latest) (c : ℕ)
    → kept_next profile latest c ≡ kept_at_lock profile c
kept_anew Normal looks latest c = refl
kept_anew Worn looks latest c = refl
kept_anew Rough looks latest c = absurd looks

-- there cells that follow on from the first of them are a chain, and the other way round
pub chain_on : (profile : Profile) → LooksAtLast profile → (cells : List Cell) → FollowOn profile cells
    → IsChain profile cells
chain_on Normal looks cells follow = follow
chain_on Worn looks cells follow = follow
chain_on Rough looks cells follow = absurd looks

-- the cells of a chain behind a zero follow it as from a lock
follow_behind : (profile : Profile) → LooksAtLast profile → (latest : Latest) (before after : List Cell) (x : ℕ)
    → Follow profile latest (before ++ Zero x ∷ after) → (1 ≤ x) × IsChainAfter profile x after
follow_behind profile looks latest [] after x follow =
    (follow.0, rw (← kept_anew profile looks latest x) follow.2)
follow_behind profile looks latest (cell ∷ before) after x follow =
    follow_behind profile looks (kept_next profile latest (length_of cell)) before after x follow.2

on_behind : (profile : Profile) → LooksAtLast profile → (before after : List Cell) (x : ℕ)
    → FollowOn profile (before ++ Zero x ∷ after)
    → (1 ≤ x) × IsChainAfter profile x after
on_behind profile looks [] after x follow = follow
on_behind profile looks (cell ∷ before) after x follow =
    follow_behind profile looks (kept_at_lock profile (length_of cell)) before after x follow.1

each_behind : (before after : List Cell) (x : ℕ) → FollowEachZero Rough (before ++ Zero x ∷ after)
    → (1 ≤ x) × IsChainAfter Rough x after
each_behind [] after x follow = (follow.0, follow.1)
each_behind (Zero y ∷ before) after x follow = each_behind before after x follow.2
each_behind (One a b ∷ before) after x follow = each_behind before after x follow

pub behind_zero : (profile : Profile) (before after : List Cell) (x : ℕ) → IsChain profile (before ++ Zero x ∷ after)
    → (1 ≤ x) × IsChainAfter profile x after
behind_zero Normal before after x chain = on_behind Normal tt before after x chain
behind_zero Worn before after x chain = on_behind Worn tt before after x chain
behind_zero Rough before after x chain = each_behind before after x chain.0

-- a pair of another kind is not unequal
pub other_kind : (profile : Profile) (a b : ℕ) (kind : PairKind) → IsKind profile a b kind
    → (kind ≡ Same) ⊎ (kind ≡ Wild)
    → AreUnequal profile a b → ⊥
other_kind profile a b Same is other unequal = unequal.0 is
other_kind profile a b Step is (inl other) unequal = cc
other_kind profile a b Step is (inr other) unequal = cc
other_kind profile a b Wild is other unequal = is.1 unequal
