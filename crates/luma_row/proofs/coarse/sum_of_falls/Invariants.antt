use Rattle.std.proofs.Common.{◌≡◌, ◌*◌, ◌^◌, ◌≤◌}
use Rattle.luma_row.specs.Choice.{sum_of}
use Rattle.luma_row.specs.Coarse.{coarse_fall}
use Rattle.luma_row.proofs.coarse.sum_of_falls.Given as goal

abbrev pub invariant-loop-pair : goal.invariant-loop-pair
invariant-loop-pair l = (l.pair ≤ 9) × (l.sum ≡ sum_of l.pair (coarse_fall l.row l.apart (16 * l.pixel)))
    × (l.sum ≤ l.pair * 2 ^ 26)
