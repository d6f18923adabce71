use Rattle.luma_row.specs.Climb.{worth}
use Rattle.luma_row.specs.KeptBest.{IsBestOf}
use Rattle.luma_row.proofs.climb.best_neighbour.Given as goal

abbrev pub invariant-loop-number : goal.invariant-loop-number
invariant-loop-number l = IsBestOf l.number (worth l.row l.place l.step) l.best.sum l.best.number
