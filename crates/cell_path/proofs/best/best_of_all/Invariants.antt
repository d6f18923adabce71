use Rattle.std.proofs.Common.{◌*◌}
use Rattle.cell_path.proofs.BestOfAll.{BestSoFar}
use Rattle.cell_path.proofs.best.best_of_all.Given as goal

abbrev pub invariant-loop-place : goal.invariant-loop-place
invariant-loop-place l = BestSoFar l.ends (2 * l.place) l.best
