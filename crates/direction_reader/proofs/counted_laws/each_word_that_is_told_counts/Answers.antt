use Rattle.std.proofs.Common.{subst, sym, List, None}
use Rattle.direction_reader.specs.declared.firm_event.FirmEvent.{FirmEvent}
use Rattle.direction_reader.specs.CountedTape.{EachIsCounted}
use Rattle.direction_reader.proofs.CountedNeighbours.{each_counts}
use Rattle.direction_reader.proofs.counted_laws.each_word_that_is_told_counts.Goals as goal

pub returns : goal.returns
returns c = λ system profile intervals events are.
    subst (λ (ts : List FirmEvent). EachIsCounted None ts) (sym are.2) (each_counts None are.0)
