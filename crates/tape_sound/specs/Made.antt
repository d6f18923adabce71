-- A tape whose lengths are counted in samples, and the same in ticks.
use Rattle.std.specs.Prelude.{ℕ, ◌*◌, List, [], ◌∷◌}
use Rattle.biphase.specs.declared.cell.Cell.{Cell}
use Rattle.biphase.specs.declared.cell.Cell.TheVariants.{Zero, One}

-- a cell this many times as long
abbrev pub scaled_cell : ℕ → Cell → Cell
scaled_cell times (Zero c) = Zero (times * c)
scaled_cell times (One a b) = One (times * a) (times * b)

-- each of them this many times as long
abbrev pub scaled : ℕ → List Cell → List Cell
scaled times [] = []
scaled times (cell ∷ tape) = scaled_cell times cell ∷ scaled times tape
