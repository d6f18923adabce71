use Rattle.cell_path.specs.Started.{AreSpread}
use Rattle.cell_path.proofs.spread.fill.Given as goal

abbrev pub invariant-loop-place : goal.invariant-loop-place
invariant-loop-place l = AreSpread l.place l.lengths l.fn.marks l.marks
