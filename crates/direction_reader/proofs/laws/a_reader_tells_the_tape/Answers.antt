use Rattle.direction_reader.specs.Tracker.{profile_of}
use Rattle.direction_reader.proofs.laws.a_reader_tells_the_tape.Goals as goal

-- what it stands for are the events of its intervals
pub returns-clause-damage : goal.returns-clause-damage
returns-clause-damage c = λ reader intervals events stands.
    c.events_find_the_tape_again.ensures reader.system (profile_of reader.tracker) intervals events
    (c.a_reader_gives_the_events_of_its_list.ensures reader intervals events stands)

pub returns-clause-mirror : goal.returns-clause-mirror
returns-clause-mirror c = λ reader intervals events mirrored stands.
    c.events_mirror_the_tape.ensures reader.system (profile_of reader.tracker) intervals events mirrored
    (c.a_reader_gives_the_events_of_its_list.ensures reader intervals events stands)
