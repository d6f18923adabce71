use Rattle.std.proofs.Common.{◌≡◌, ◌≤◌}
use Rattle.luma_row.specs.Earliest.{earliest_within}
use Rattle.luma_row.specs.KeptPlace.{IsNear}
use Rattle.luma_row.proofs.earliest.earliest.Given as goal

abbrev pub invariant-loop-cells : goal.invariant-loop-cells
invariant-loop-cells l = (l.cells ≤ 17) × (l.best ≡ earliest_within l.row l.deepest l.cells) × IsNear l.best
