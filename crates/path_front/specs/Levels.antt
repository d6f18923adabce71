-- The level of cells, in the unit of the samples. Lists of cells before begin with the latest, and lists behind with the
-- next. The rule is this project's own.
use Rattle.std.specs.Prelude.{ℕ, ◌+◌, ◌*◌, ◌/◌, ◌^◌, ◌≤◌, min, max, ltb, Bool, cond, ℤ, pos, ◌+ℤ◌, int_le, unsigned_abs}
use Rattle.std.specs.Prelude.{List, [], ◌∷◌, length}
use Rattle.std.specs.List.{sum_by}
use Rattle.cell_path.specs.declared.cell.Bit.{Bit}
use Rattle.cell_path.specs.declared.cell.Bit.TheVariants.{Zero, One}
use Rattle.path_front.specs.declared.levels.Range.{Range}
use Rattle.path_front.specs.declared.measured.Measured.{Measured}

-- a number, or nothing where it is below zero
abbrev pub above : ℤ → ℕ
above number = cond (int_le number (pos 0)) 0 (unsigned_abs number)

-- the mean of the sound of a cell times its signs. Its halves have their sums twice.
abbrev pub level_of : Measured → ℕ
level_of cell = above (cell.first.sum +ℤ cell.second.sum) / (2 * cell.length)

-- the mean of the levels of some cells
abbrev pub mean_level : List Measured → ℕ
mean_level cells = sum_by level_of cells / length cells

-- the mean levels of the neighbours: of those before a cell, and of those behind it where there are some
abbrev pub range_by : List Measured → List Measured → Range
range_by before [] = record { least = mean_level before; most = mean_level before }
range_by before (cell ∷ behind) =
    let a = mean_level before in
    let b = mean_level (cell ∷ behind) in
    record { least = min a b; most = max a b }

-- how many eighths of the level there have to be between two cells: fewer between two ones, whose sound is the dullest
abbrev pub eighths : Bit → Bit → ℕ
eighths One One = 1
eighths One Zero = 2
eighths Zero bit = 2

-- from the middle of a cell to the middle of the next, the only place where two bits are mistaken for one another, the
-- sound times the signs has less than this part of the level, or less than a quarter of the least threshold
abbrev pub is_faint : ℕ → ℕ → Measured → Measured → Bool
is_faint least level before cell =
    ltb (8 * above (before.second.sum +ℤ cell.first.sum))
    (max (eighths before.bit cell.bit * level) (2 * least) * (before.length + cell.length))

-- how great the levels of a range are at most
pub record IsRange (range : Range) : Type 0 where
  pub least : range.least ≤ 2 ^ 15
  pub most : range.most ≤ 2 ^ 15
