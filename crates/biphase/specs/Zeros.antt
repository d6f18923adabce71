-- Where the zeros of a chain are among its intervals.
use Rattle.std.specs.Prelude.{◌≡◌, ℕ, ◌+◌, ◌<◌, List, ◌∷◌, ◌++◌, length}
use Rattle.biphase.specs.declared.cell.Cell.{Cell}
use Rattle.biphase.specs.declared.cell.Cell.TheVariants.{Zero}
use Rattle.biphase.specs.Chain.{flat}

-- the zero of x ticks is one of the cells, and stands at the place k of their intervals
pub record IsZeroAt (cells : List Cell) (k x : ℕ) : Type 0 where
  pub before : List Cell
  pub after : List Cell
  pub are : cells ≡ before ++ Zero x ∷ after
  pub place : length (flat before) ≡ k

-- of the intervals a and b at the places k and k + 1 the greater is a zero
abbrev pub GreaterIsZero : List Cell → ℕ → ℕ → ℕ → Type 0
GreaterIsZero cells k a b = (a < b → IsZeroAt cells (k + 1) b) × (b < a → IsZeroAt cells k a)
