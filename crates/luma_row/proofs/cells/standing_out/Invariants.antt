use Rattle.std.proofs.Common.{◌≡◌, ◌≤◌}
use Rattle.luma_row.specs.Cells.{stands_out}
use Rattle.luma_row.specs.Choice.{sum_of}
use Rattle.luma_row.proofs.cells.standing_out.Given as goal

abbrev pub invariant-loop-pair : goal.invariant-loop-pair
invariant-loop-pair l = (l.pair ≤ 9) × (l.count ≡ sum_of l.pair (stands_out l.cells)) × (l.count ≤ l.pair)
