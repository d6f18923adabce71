-- A recording within the tolerance and the same intervals in the other order of time.
use Rattle.std.specs.Prelude.{◌≡◌, ℕ, ◌+◌, List, ◌++◌, length}
use Rattle.biphase.specs.declared.cell.Cell.{Cell}
use Rattle.biphase.specs.Chain.{flat}
use Rattle.biphase.specs.Mirror.{mirrored}

-- two lists of cells begin with the same cells, in the one order of time and in the other. Of a list of `count`
-- intervals these are all but the `before` first ones and the `after` last ones
pub record BeginMirrored (cells others : List Cell) (before after count : ℕ) : Type 0 where
  pub middle : List Cell
  pub more : List Cell
  pub others_more : List Cell
  pub cells_are : cells ≡ middle ++ more
  pub others_are : others ≡ mirrored middle ++ others_more
  pub many : before + length (flat middle) + after ≡ count
