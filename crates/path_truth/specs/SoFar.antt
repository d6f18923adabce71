-- What is decided of a tape while its sound goes on. Lists of cells begin with the latest.
use Rattle.std.specs.Prelude.{ℕ, ◌+◌, ◌-◌, ◌%◌, cond, leb, List}
use Rattle.std.specs.List.{filter}
use Rattle.cell_path.specs.declared.follow.TheConstants.{DELAY, EVERY, FIRST}
use Rattle.cell_path.specs.declared.placed.Placed.{Placed}

-- after how many steps the latest decision fell due, of so many: after none before the first
abbrev pub latest_decision : ℕ → ℕ
latest_decision count = cond (leb FIRST count) (count - count % EVERY) 0

-- those of some cells that had ended long enough ago at the latest decision
abbrev pub ended_in_time : ℕ → List Placed → List Placed
ended_in_time count cells = filter (λ (cell : Placed). leb (cell.end + DELAY) (latest_decision count)) cells
