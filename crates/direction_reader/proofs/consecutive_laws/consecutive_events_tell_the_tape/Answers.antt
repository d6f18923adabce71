use Rattle.direction_reader.proofs.NextWordLists.{tells_the_tape}
use Rattle.direction_reader.proofs.consecutive_laws.consecutive_events_tell_the_tape.Goals as goal

pub returns : goal.returns
returns c = λ system profile intervals events are. tells_the_tape system profile intervals are.0 events
    (c.firm_events_tell_the_tape.ensures system profile intervals are.0 are.1) are.2
