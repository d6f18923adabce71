use Rattle.std.proofs.Common.{◌≡◌}
use Rattle.path_front.specs.Cells.{SameSound}
use Rattle.path_front.specs.Judging.{judging_left, GivesNone}
use Rattle.path_front.proofs.judging.Judging.judge.Given as goal

abbrev pub invariant-cells : goal.invariant-cells
invariant-cells l = record {
  none : GivesNone l.initial.self l.self;
  same : SameSound l.initial.self.cells l.self.cells;
  ear : l.self.gate.ear ≡ l.initial.self.gate.ear;
}

abbrev pub decreases-cells : goal.decreases-cells
decreases-cells l = judging_left l.self
