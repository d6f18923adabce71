use Rattle.direction_reader.specs.Tracker.{profile_of}
use Rattle.direction_reader.proofs.TheEvents.{reader_events}
use Rattle.direction_reader.proofs.laws.a_reader_gives_the_events_of_its_list.Goals as goal

pub returns : goal.returns
returns c = λ reader intervals events stands.
    c.events_are_those_that_are_spelled.ensures.listed reader.system (profile_of reader.tracker) intervals events
    (reader_events reader intervals events stands)
