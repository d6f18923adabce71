-- Recordings of some bits for examples. Each cell lasts 24 ticks.
use Rattle.std.specs.Prelude.{ℕ, zero, suc, ◌/◌, ◌%◌, ◌==◌, Bool, true, false, List, [], ◌∷◌, Option}
use Rattle.biphase.specs.declared.cell.Cell.{Cell}
use Rattle.biphase.specs.declared.cell.Cell.TheVariants.{Zero, One}
use Rattle.biphase.specs.Chain.{flat}
use Rattle.cell_tracker.specs.Stretch.{Stretch}

-- the cell of a bit: a zero of 24 ticks, or a one of two halves of 12
abbrev pub cell_of : Bool → Cell
cell_of false = Zero 24
cell_of true = One 12 12

-- the cells of this many bits of a number, the least significant bit first
unfoldable pub cells_of : ℕ → ℕ → List Cell
cells_of zero number = []
cells_of (suc count) number = cell_of (number % 2 == 1) ∷ cells_of count (number / 2)

-- their intervals
abbrev pub recording : ℕ → ℕ → List ℕ
recording count number = flat (cells_of count number)

-- the stretch that they are where the first of them is the lock
abbrev pub stretch_of : ℕ → ℕ → Option ℕ → Stretch
stretch_of count number place = record { lock = 0; cells = cells_of count number; broken_at = place }
