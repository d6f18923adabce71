-- How far apart the ends of cells are. Lists of cells begin with the latest.
use Rattle.std.specs.Prelude.{ℕ, ◌+◌, ◌<◌, ◌≤◌, List, [], ◌∷◌, length}
use Rattle.cell_path.specs.declared.lengths.TheConstants.{LENGTHS}
use Rattle.cell_path.specs.declared.placed.Placed.{Placed}
use Rattle.cell_path.specs.Decided.{end_behind}
use Rattle.cell_path.specs.Lengths.{length_in}

-- each ends at least two steps behind the one before it, and at most this many; the earliest does so behind what was
-- decided before
abbrev pub AreSpaced : ℕ → ℕ → List Placed → Type 0
AreSpaced most done [] = Unit {0}
AreSpaced most done (cell ∷ before) =
    (end_behind done before + 2 ≤ cell.end) × (cell.end ≤ end_behind done before + most) × AreSpaced most done before

-- each ends two steps behind the one before it at least, and the earliest two steps behind the beginning
abbrev pub AreApart : List Placed → Type 0
AreApart [] = Unit {0}
AreApart (cell ∷ before) = (end_behind 0 before + 2 ≤ cell.end) × AreApart before

-- each ends at most 120 steps behind the one before it, and the earliest behind the beginning
abbrev pub AreNear : List Placed → Type 0
AreNear [] = Unit {0}
AreNear (cell ∷ before) = (cell.end ≤ end_behind 0 before + 120) × AreNear before

-- the length of a cell is one of the list, from 4 to 96 steps
abbrev pub IsInList : Placed → Type 0
IsInList cell =
    (cell.cell.place < length LENGTHS) × (4 ≤ length_in LENGTHS cell.cell.place)
    × (length_in LENGTHS cell.cell.place ≤ 96)
