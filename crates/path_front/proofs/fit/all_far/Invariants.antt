use Rattle.std.proofs.Common.{◌≡◌, ◌*◌, ◌^◌, ◌≤◌, take}
use Rattle.path_front.specs.Fit.{all_far}
use Rattle.path_front.proofs.fit.all_far.Given as goal

abbrev pub invariant-loop-cell : goal.invariant-loop-cell
invariant-loop-cell l = record {
  value : l.sum ≡ all_far l.level (take l.cell-index l.cells);
  size : l.sum ≤ l.cell-index * 2 ^ 31;
}
