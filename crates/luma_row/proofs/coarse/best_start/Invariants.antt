use Rattle.luma_row.specs.Coarse.{sum_at}
use Rattle.luma_row.specs.KeptBest.{IsBestOf}
use Rattle.luma_row.proofs.coarse.best_start.Given as goal

abbrev pub invariant-loop-number : goal.invariant-loop-number
invariant-loop-number l = IsBestOf l.number (sum_at l.row l.apart) l.best.sum l.best.number
