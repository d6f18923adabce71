use Rattle.std.proofs.Common.{◌≡◌, drop}
use Rattle.tc_job.specs.PathGrid.{first_fit, grids}
use Rattle.tc_job.proofs.path_grid.grid_for.Given as goal

abbrev pub invariant-loop-grid : goal.invariant-loop-grid
invariant-loop-grid l = record {
  left : first_fit l.fn.system l.fn.samples grids ≡ first_fit l.fn.system l.fn.samples (drop l.grid-index grids);
}
