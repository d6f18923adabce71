use Rattle.std.proofs.Common.{refl}
use Rattle.direction_reader.specs.Events.{no_events}
use Rattle.direction_reader.proofs.reading.DirectionReaderReading.is_nothing.Goals as goal

-- nothing is no event
pub returns-in-Nothing-clause-none : goal.returns-in-Nothing-clause-none
returns-in-Nothing-clause-none c = λ is reader. rw c.in-Nothing.is (no_events, refl, refl)
