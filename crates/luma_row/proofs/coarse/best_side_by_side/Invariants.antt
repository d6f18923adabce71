use Rattle.std.proofs.Common.{◌≡◌, ◌≤◌, length}
use Rattle.luma_row.specs.Choice.{greatest}
use Rattle.luma_row.specs.Coarse.{sum_at}
use Rattle.luma_row.specs.Width.{starts}
use Rattle.luma_row.proofs.coarse.best_side_by_side.Given as goal

abbrev pub invariant-loop-number : goal.invariant-loop-number
invariant-loop-number l = (l.number ≤ starts (length l.row) l.fn.apart)
    × (l.most ≡ greatest l.number (sum_at l.row l.fn.apart))
