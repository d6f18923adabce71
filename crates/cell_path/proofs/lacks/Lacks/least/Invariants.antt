use Rattle.cell_path.proofs.LeastLack.{LeastSoFar}
use Rattle.cell_path.proofs.lacks.Lacks.least.Given as goal

abbrev pub invariant-loop-ago : goal.invariant-loop-ago
invariant-loop-ago l = LeastSoFar l.self l.ago l.least
