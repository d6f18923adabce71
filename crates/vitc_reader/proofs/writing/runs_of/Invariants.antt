use Rattle.vitc_reader.proofs.WrittenSoFar.{WrittenSoFar}
use Rattle.vitc_reader.proofs.writing.runs_of.Given as goal

abbrev pub invariant-loop-rest : goal.invariant-loop-rest
invariant-loop-rest l = WrittenSoFar l.length l.bits l.fn.runs l.runs l.rest l.cell l.number l.is_high

abbrev pub decreases-loop-rest : goal.decreases-loop-rest
decreases-loop-rest l = l.rest
