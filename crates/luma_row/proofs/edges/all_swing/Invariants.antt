use Rattle.std.proofs.Common.{◌≡◌, ◌≤◌, true}
use Rattle.luma_row.specs.Choice.{all_of}
use Rattle.luma_row.specs.Edges.{swings_enough}
use Rattle.luma_row.proofs.edges.all_swing.Given as goal

abbrev pub invariant-loop-pair : goal.invariant-loop-pair
invariant-loop-pair l = (l.pair ≤ 9) × (all_of l.pair (swings_enough l.row l.place) ≡ true)
