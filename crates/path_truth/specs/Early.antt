-- A zero that comes in time for the first decision. Lists of cells begin with the latest.
use Rattle.std.specs.Prelude.{ℕ, ◌-◌, ◌/◌, List, length, drop}
use Rattle.cell_path.specs.declared.cell.Cell.{Cell}
use Rattle.cell_path.specs.declared.follow.TheConstants.{FIRST}
use Rattle.path_truth.specs.Tape.{HasAZero}

-- one of the cells of n steps that have ended when the first decision falls due is a zero; if none
-- falls due, one of all cells
abbrev pub HasAnEarlyZero : ℕ → List Cell → Type 0
HasAnEarlyZero n tape = HasAZero (drop (length tape - FIRST / n) tape)
