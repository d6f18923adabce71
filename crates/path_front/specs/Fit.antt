-- How well the halves of a cell fit the cells around it. The rule is this project's own.
use Rattle.std.specs.Prelude.{ℕ, ◌+◌, ◌-◌, ◌*◌, ◌/◌, min, max, ltb, Bool, cond, pos, int_lt, unsigned_abs, List, length}
use Rattle.std.specs.List.{sum_by}
use Rattle.path_front.specs.declared.measured.Half.{Half}
use Rattle.path_front.specs.declared.measured.Measured.{Measured}

-- how far the mean sound of a half lies from a level on its side
abbrev pub far : ℕ → Half → ℕ → ℕ
far level half steps =
    let size = unsigned_abs half.sum in
    let whole = steps * level in
    cond (int_lt half.sum (pos 0)) (size + whole) ((size - whole) + (whole - size)) / steps

-- the square of it, where none counts for more than that of the level
abbrev pub square_far : ℕ → Half → ℕ → ℕ
square_far level half steps = let near = min (far level half steps) level in near * near

-- both halves of a cell
abbrev pub cell_far : ℕ → Measured → ℕ
cell_far level cell = square_far level cell.first cell.length + square_far level cell.second cell.length

-- all of some cells
abbrev pub all_far : ℕ → List Measured → ℕ
all_far level cells = sum_by (cell_far level) cells

-- the mean square of the halves before a cell and behind it
abbrev pub usual : ℕ → List Measured → List Measured → ℕ
usual level before behind = (all_far level before + all_far level behind) / (2 * (length before + length behind))

-- the square of a half is more than twelve times what is usual and two squares of the level: one on the wrong side has
-- four
abbrev pub is_misfit : ℕ → ℕ → Measured → Bool
is_misfit level around cell =
    let most = max (far level cell.first cell.length) (far level cell.second cell.length) in
    ltb (12 * around + 2 * (level * level)) (most * most)
