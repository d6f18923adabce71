use Rattle.std.proofs.Common.{◌≡◌, ◌≤◌, true}
use Rattle.luma_row.specs.Choice.{all_of}
use Rattle.luma_row.specs.Earliest.{falls_enough}
use Rattle.luma_row.proofs.earliest.all_fall.Given as goal

abbrev pub invariant-loop-pair : goal.invariant-loop-pair
invariant-loop-pair l = (l.pair ≤ 9) × (all_of l.pair (falls_enough l.row l.fn.sum l.place) ≡ true)
