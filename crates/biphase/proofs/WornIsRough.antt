-- The halves of a one of a worn recording are so near to half of it that, if the one is near the mean of the
-- latest four cells, each of
-- them is a half by the rough tolerance too. Its pairs are of the same kinds under both.
use Rattle.std.proofs.Common.{ℕ, ◌+◌, List, [], ◌∷◌, arith}
use Rattle.biphase.specs.declared.cell.Cell.{Cell}
use Rattle.biphase.specs.declared.cell.Cell.TheVariants.{Zero, One}
use Rattle.biphase.specs.Latest.{Latest}
use Rattle.biphase.specs.declared.profile.Profile.TheVariants.{Worn, Rough}
use Rattle.biphase.specs.Pair.{AreUnequal}
use Rattle.biphase.specs.Tolerance.{kept_at_lock, kept_next}
use Rattle.biphase.specs.Chain.{Follow, FollowOn, FollowEachZero, IsChain, Inner, Meets, Kinds}
use Rattle.biphase.specs.KindLemmas.{chain_kinds}
use Rattle.biphase.specs.Mean.{StayNearTheMean, StayFromEachZero}

unequal_too : (a b : ℕ) → AreUnequal Worn a b → AreUnequal Rough a b
unequal_too a b unequal = (unequal.0, omega (arith, unequal.1))

inner_too : (cell : Cell) → Inner Worn cell → Inner Rough cell
inner_too (Zero x) inner = tt
inner_too (One a b) inner = inner

meets_too : (cell next : Cell) → Meets Worn cell next → Meets Rough cell next
meets_too (Zero x) (Zero y) meets = meets
meets_too (Zero x) (One a b) meets = (unequal_too x a meets.0, meets.1)
meets_too (One a b) (Zero y) meets = (unequal_too b y meets.0, meets.1)
meets_too (One a b) (One c d) meets = meets

kinds_too : (cells : List Cell) → Kinds Worn cells → Kinds Rough cells
kinds_too [] kinds = tt
kinds_too (cell ∷ []) kinds = inner_too cell kinds
kinds_too (cell ∷ next ∷ cells) kinds =
    (inner_too cell kinds.0, meets_too cell next kinds.1, kinds_too (next ∷ cells) kinds.2)

follow_too : (worn rough : Latest) (cells : List Cell) → Follow Worn worn cells → StayNearTheMean rough cells
    → Follow Rough rough cells
follow_too worn rough [] follow stay = tt
follow_too worn rough (Zero x ∷ cells) follow stay =
    let near = stay.0 in (
      follow.0,
      (omega arith, omega arith),
      follow_too (kept_next Worn worn x) (kept_next Rough rough x) cells follow.2
          stay.1,
    )
follow_too worn rough (One a b ∷ cells) follow stay =
    let near = stay.0 in
    let halves = follow.0.2 in (
      (follow.0.0, follow.0.1, tt),
      ((omega arith, omega arith), (omega arith, omega arith), (omega arith, omega arith)),
      follow_too (kept_next Worn worn (a + b)) (kept_next Rough rough (a + b)) cells follow.2 stay.1,
    )

each_zero : (worn : Latest) (cells : List Cell) → Follow Worn worn cells → StayFromEachZero cells
    → FollowEachZero Rough cells
each_zero worn [] follow stay = tt
each_zero worn (Zero x ∷ cells) follow stay = (
  follow.0,
  follow_too (kept_next Worn worn x) (kept_at_lock Rough x) cells follow.2 stay.0,
  each_zero (kept_next Worn worn x) cells follow.2 stay.1,
)
each_zero worn (One a b ∷ cells) follow stay = each_zero (kept_next Worn worn (a + b)) cells follow.2 stay

from_first : (cells : List Cell) → FollowOn Worn cells → StayFromEachZero cells → FollowEachZero Rough cells
from_first [] follow stay = tt
from_first (Zero x ∷ cells) follow stay = (
  follow.0,
  follow_too (kept_at_lock Worn x) (kept_at_lock Rough x) cells follow.1 stay.0,
  each_zero (kept_at_lock Worn x) cells follow.1 stay.1,
)
from_first (One a b ∷ cells) follow stay = each_zero (kept_at_lock Worn (a + b)) cells follow.1 stay

pub worn_is_rough : (cells : List Cell) → IsChain Worn cells → StayFromEachZero cells → IsChain Rough cells
worn_is_rough cells chain stay = (from_first cells chain stay, kinds_too cells (chain_kinds Worn cells chain))
