use Rattle.std.proofs.Common.{◌+◌, ◌-◌, ◌<◌, ◌≤◌, length}
use Rattle.cell_path.specs.Decided.{end_behind}
use Rattle.cell_path.specs.Spaced.{AreSpaced}
use Rattle.cell_path.proofs.Followed.{ago_of, IsGathered, IsHere}
use Rattle.cell_path.proofs.SpacedEnds.{AreBehind}
use Rattle.cell_path.proofs.follow.decided_now.Given as goal

abbrev pub invariant-cells : goal.invariant-cells
invariant-cells l = record {
  here : IsHere l.delay l.count (length l.waiting) l.at;
  near : 0 < length l.waiting → l.count ≤ end_behind l.done l.waiting + (l.delay + 95);
  behind : end_behind l.done l.waiting ≤ l.count;
  gathered : IsGathered l.delay l.count l.done l.paths l.fn.best l.at l.waiting;
  spaced : AreSpaced 96 (l.count - ago_of l.count l.at) l.waiting;
  far : AreBehind l.done l.waiting;
}

abbrev pub decreases-cells : goal.decreases-cells
decreases-cells l = l.count - ago_of l.count l.at
