use Rattle.cell_path.proofs.CostsOfCells.{SomeSoFar}
use Rattle.cell_path.proofs.starts.begin_some.Given as goal

abbrev pub invariant-loop-place : goal.invariant-loop-place
invariant-loop-place l = SomeSoFar l.fn.rows l.rows l.fn.marks l.marks l.ends l.best l.fn.levels l.from l.place l.jump
