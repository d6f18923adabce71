use Rattle.std.proofs.Common.{◌≡◌, ◌*◌, ◌^◌, ◌≤◌}
use Rattle.luma_row.specs.Choice.{sum_of}
use Rattle.luma_row.specs.Place.{pair_fall}
use Rattle.luma_row.proofs.place.Place.score.Given as goal

abbrev pub invariant-loop-pair : goal.invariant-loop-pair
invariant-loop-pair l = (l.pair ≤ 9) × (l.sum ≡ sum_of l.pair (pair_fall l.row l.self)) × (l.sum ≤ l.pair * 2 ^ 26)
