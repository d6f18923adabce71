use Rattle.cell_path.proofs.OneMoreLength.{EndsSoFar}
use Rattle.cell_path.proofs.ends.best_ends.Given as goal

abbrev pub invariant-loop-place : goal.invariant-loop-place
invariant-loop-place l = EndsSoFar l.sums l.rows l.place l.ends
