-- Cells that stay near the mean of the latest four.
use Rattle.biphase.specs.Tolerance.{length_of}
use Rattle.std.specs.Prelude.{ℕ, ◌*◌, ◌≤◌, List, [], ◌∷◌}
use Rattle.std.specs.Int.{abs_diff}
use Rattle.biphase.specs.declared.cell.Cell.{Cell}
use Rattle.biphase.specs.declared.cell.Cell.TheVariants.{Zero, One}
use Rattle.biphase.specs.Latest.{Latest}
use Rattle.biphase.specs.declared.profile.Profile.TheVariants.{Rough}
use Rattle.biphase.specs.Tolerance.{sum_of, kept_at_lock, kept_next}

-- a length differs from the mean of the latest four by a quarter of it at most. Four times the mean is their sum
abbrev pub IsNearTheMean : Latest → ℕ → Type 0
IsNearTheMean latest length = 4 * abs_diff (4 * length) (sum_of latest) ≤ sum_of latest

-- each of some cells that follow does
abbrev pub StayNearTheMean : Latest → List Cell → Type 0
StayNearTheMean latest [] = Unit {0}
StayNearTheMean latest (cell ∷ cells) =
    IsNearTheMean latest (length_of cell) × StayNearTheMean (kept_next Rough latest (length_of cell)) cells

-- so do those behind each zero, which counts four times at first
abbrev pub StayFromEachZero : List Cell → Type 0
StayFromEachZero [] = Unit {0}
StayFromEachZero (Zero x ∷ cells) = StayNearTheMean (kept_at_lock Rough x) cells × StayFromEachZero cells
StayFromEachZero (One a b ∷ cells) = StayFromEachZero cells
