use Rattle.std.proofs.Common.{◌≤◌, ℤ, List}
use Rattle.cell_path.specs.declared.placed.Placed.{Placed}
use Rattle.path_front.specs.Cells.{cells_left, CellsEndFor, CellsStandFor, SameSound}
use Rattle.path_front.proofs.cells.Cells.next.Given as goal

abbrev pub invariant-steps : goal.invariant-steps
invariant-steps l = record {
  stands : (samples : List ℤ) (given : List Placed) → CellsStandFor l.initial.self samples given
      → CellsStandFor l.self samples given;
  rest : (samples : List ℤ) (given : List Placed) → CellsEndFor l.initial.self samples given
      → CellsEndFor l.self samples given;
  same : SameSound l.initial.self l.self;
  most : cells_left l.self ≤ cells_left l.initial.self;
}

abbrev pub decreases-steps : goal.decreases-steps
decreases-steps l = cells_left l.self
