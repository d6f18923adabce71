use Rattle.std.proofs.Common.{◌≡◌, ◌*◌, ◌^◌, ◌≤◌, take}
use Rattle.std.specs.List.{sum_by}
use Rattle.path_front.specs.Levels.{level_of}
use Rattle.path_front.proofs.levels.levels.Given as goal

abbrev pub invariant-loop-cell : goal.invariant-loop-cell
invariant-loop-cell l = record {
  value : l.sum ≡ sum_by level_of (take l.cell-index l.cells);
  size : l.sum ≤ l.cell-index * 2 ^ 15;
}
