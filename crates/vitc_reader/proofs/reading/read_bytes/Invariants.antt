use Rattle.vitc_reader.specs.Runs.{runs_of_bytes}
use Rattle.vitc_reader.proofs.TurnedSoFar.{TurnedSoFar}
use Rattle.vitc_reader.proofs.reading.read_bytes.Given as goal

abbrev pub invariant-runs : goal.invariant-runs
invariant-runs l = TurnedSoFar l.length (runs_of_bytes l.bytes) l.index l.line.bits l.line.cells
