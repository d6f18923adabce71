use Rattle.luma_row.specs.Coarse.{best_at}
use Rattle.luma_row.specs.KeptBest.{IsBestOf}
use Rattle.luma_row.proofs.coarse.best_distance.Given as goal

abbrev pub invariant-loop-number : goal.invariant-loop-number
invariant-loop-number l = IsBestOf l.number (best_at l.row) l.best.sum l.best.number
