use Rattle.tape_spans.proofs.SpansGoOn.{stands_at_first}
use Rattle.tape_spans.proofs.tape.TapeSpans.new.Goals as goal

pub returns-clause-stands : goal.returns-clause-stands
returns-clause-stands c = stands_at_first
