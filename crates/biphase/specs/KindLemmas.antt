-- A law of chains, for the proofs of the crates above: in a chain the kinds of neighbouring intervals are as the cells
-- say. All of this is proved here, and no promise rests on it.
use Rattle.std.proofs.Common.{ℕ, ◌+◌, ◌<◌, ◌≤◌, List, [], ◌∷◌, arith}
use Rattle.biphase.specs.declared.profile.Profile.{Profile}
use Rattle.biphase.specs.declared.profile.Profile.TheVariants.{Normal, Worn, Rough}
use Rattle.biphase.specs.declared.cell.Cell.{Cell}
use Rattle.biphase.specs.declared.cell.Cell.TheVariants.{Zero, One}
use Rattle.biphase.specs.Pair.{AreEqual, AreUnequal}
use Rattle.biphase.specs.Tolerance.{LooksAtLast, kept_at_lock}
use Rattle.biphase.specs.Tolerance.{length_of, AreHalves}
use Rattle.biphase.specs.Chain.{IsCell, FollowOn, IsChain, IsChainAfter, IsNextZero, IsNextOne}
use Rattle.biphase.specs.Chain.{Inner, Meets, Kinds}
use Rattle.biphase.specs.ToleranceLemmas.{kept_anew}

-- two zeros are equal, and so are two halves, of one cell and of two
pub zeros_equal : (profile : Profile) → LooksAtLast profile → (c x : ℕ) → IsNextZero profile (kept_at_lock profile c) x
    → AreEqual profile c x
zeros_equal Normal looks c x near = omega arith
zeros_equal Worn looks c x near = omega arith
zeros_equal Rough looks c x near = absurd looks

pub halves_equal : (profile : Profile) → LooksAtLast profile → (x y : ℕ) → AreHalves profile x y → AreEqual profile x y
halves_equal Normal looks x y halves = omega arith
halves_equal Worn looks x y halves = omega arith
halves_equal Rough looks x y halves = absurd looks

pub neighbours_equal : (profile : Profile) → LooksAtLast profile → (a b x y : ℕ) → AreHalves profile a b
    → IsNextOne profile (kept_at_lock profile (a + b)) x y → AreEqual profile b x
neighbours_equal Normal looks a b x y halves one = omega arith
neighbours_equal Worn looks a b x y halves one = omega arith
neighbours_equal Rough looks a b x y halves one = absurd looks

-- a zero and a half are unequal, and the zero is the greater
pub zero_falls : (profile : Profile) → LooksAtLast profile → (c x y : ℕ) → 1 ≤ x
    → IsNextOne profile (kept_at_lock profile c) x y
    → AreUnequal profile c x × (x < c)
zero_falls Normal looks c x y ticks one = ((λ equal. omega arith, omega arith), omega arith)
zero_falls Worn looks c x y ticks one = ((λ equal. omega arith, omega arith), omega arith)
zero_falls Rough looks c x y ticks one = absurd looks

pub half_rises : (profile : Profile) → LooksAtLast profile → (a b x : ℕ) → 1 ≤ x → AreHalves profile a b
    → IsNextZero profile (kept_at_lock profile (a + b)) x → AreUnequal profile b x × (b < x)
half_rises Normal looks a b x ticks halves near = ((λ equal. omega arith, omega arith), omega arith)
half_rises Worn looks a b x ticks halves near = ((λ equal. omega arith, omega arith), omega arith)
half_rises Rough looks a b x ticks halves near = absurd looks

inner_of : (profile : Profile) → LooksAtLast profile → (cell : Cell) → IsCell profile cell → Inner profile cell
inner_of profile looks (Zero x) is = tt
inner_of profile looks (One a b) is = halves_equal profile looks a b is.2

meets_of : (profile : Profile) → LooksAtLast profile → (cell next : Cell) (cells : List Cell) → IsCell profile cell
    → IsChainAfter profile (length_of cell) (next ∷ cells) → Meets profile cell next
meets_of profile looks (Zero x) (Zero y) cells is chain = zeros_equal profile looks x y chain.1
meets_of profile looks (Zero x) (One a b) cells is chain = zero_falls profile looks x a b chain.0.0 (chain.1, chain.0.2)
meets_of profile looks (One a b) (Zero y) cells is chain = half_rises profile looks a b y chain.0 is.2 chain.1
meets_of profile looks (One a b) (One c d) cells is chain =
    neighbours_equal profile looks a b c d is.2 (chain.1, chain.0.2)

-- where the last cell alone is kept, the tests tell the kinds
on_kinds : (profile : Profile) → LooksAtLast profile → (cell : Cell) (cells : List Cell) → IsCell profile cell
    → IsChainAfter profile (length_of cell) cells → Kinds profile (cell ∷ cells)
on_kinds profile looks cell [] is chain = inner_of profile looks cell is
on_kinds profile looks cell (next ∷ cells) is chain =
    let more : IsChainAfter profile (length_of next) cells =
    rw (← kept_anew profile looks (kept_at_lock profile (length_of cell)) (length_of next)) chain.2 in (
      inner_of profile looks cell is,
      meets_of profile looks cell next cells is chain,
      on_kinds profile looks next cells chain.0 more,
    )

follow_kinds : (profile : Profile) → LooksAtLast profile → (cells : List Cell) → FollowOn profile cells
    → Kinds profile cells
follow_kinds profile looks [] follow = tt
follow_kinds profile looks (cell ∷ cells) follow = on_kinds profile looks cell cells follow.0 follow.1

-- and else they are said
pub chain_kinds : (profile : Profile) (cells : List Cell) → IsChain profile cells → Kinds profile cells
chain_kinds Normal cells chain = follow_kinds Normal tt cells chain
chain_kinds Worn cells chain = follow_kinds Worn tt cells chain
chain_kinds Rough cells chain = chain.1

-- the kinds of the first cell, and of those behind it
pub kinds_first : (profile : Profile) (cell : Cell) (cells : List Cell) → Kinds profile (cell ∷ cells)
    → Inner profile cell
kinds_first profile cell [] kinds = kinds
kinds_first profile cell (next ∷ cells) kinds = kinds.0

pub kinds_rest : (profile : Profile) (cell : Cell) (cells : List Cell) → Kinds profile (cell ∷ cells)
    → Kinds profile cells
kinds_rest profile cell [] kinds = tt
kinds_rest profile cell (next ∷ cells) kinds = kinds.2
