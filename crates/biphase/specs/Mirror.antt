-- Cells in the other order of time, as a tape that runs backward gives them.
use Rattle.std.specs.Prelude.{List, map, reverse}
use Rattle.biphase.specs.declared.cell.Cell.{Cell}
use Rattle.biphase.specs.declared.cell.Cell.TheVariants.{Zero, One}

-- a cell in the other order of time
abbrev pub mirror_of : Cell → Cell
mirror_of (Zero x) = Zero x
mirror_of (One a b) = One b a

-- cells in the other order of time
abbrev pub mirrored : List Cell → List Cell
mirrored cells = reverse (map mirror_of cells)
