use Rattle.line_file.specs.KeptFront.{runs_behind}
use Rattle.line_file.proofs.PieceByPiece.{RunsSoFar}
use Rattle.line_file.proofs.field.tried_runs.Given as goal

abbrev pub invariant-runs : goal.invariant-runs
invariant-runs l = RunsSoFar l.count l.place l.bytes l._run l.at (runs_behind l._run l.bytes)
