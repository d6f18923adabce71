use Rattle.vitc_reader.proofs.TurnedSoFar.{TurnedSoFar}
use Rattle.vitc_reader.proofs.reading.read_runs.Given as goal

abbrev pub invariant-runs : goal.invariant-runs
invariant-runs l = TurnedSoFar l.length l.runs l.index l.line.bits l.line.cells
