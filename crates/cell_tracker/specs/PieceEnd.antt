-- Where a piece of a chain ends in it, as the tracker's states keep it: behind a cell of the chain, or inside a one.
use Rattle.std.specs.Prelude.{◌≡◌, ℕ, ◌+◌, List, ◌∷◌, ◌++◌, length}
use Rattle.biphase.specs.declared.cell.Cell.{Cell}
use Rattle.biphase.specs.declared.cell.Cell.TheVariants.{One}
use Rattle.biphase.specs.Tolerance.{length_of}
use Rattle.biphase.specs.Chain.{intervals_of, flat}
use Rattle.cell_tracker.specs.State.{AtCellState, MidCellState}

-- the place is a boundary of the chain, and the state keeps the length of the cell that ends there as the last
pub record StandsAtBoundary (state : AtCellState) (cells : List Cell) (place : ℕ) : Type 0 where
  pub before : List Cell
  pub cell : Cell
  pub after : List Cell
  pub are : cells ≡ before ++ cell ∷ after
  pub ends : length (flat before) + length (intervals_of cell) ≡ place
  pub last : state.latest.last ≡ length_of cell

-- the place lies between the halves of a one of the chain, and the state keeps its first half and the length of the
-- cell before it
pub record StandsInsideOne (state : MidCellState) (cells : List Cell) (place : ℕ) : Type 0 where
  pub before : List Cell
  pub cell : Cell
  pub second : ℕ
  pub after : List Cell
  pub are : cells ≡ before ++ cell ∷ One state.half second ∷ after
  pub ends : length (flat before) + length (intervals_of cell) + 1 ≡ place
  pub last : state.latest.last ≡ length_of cell
