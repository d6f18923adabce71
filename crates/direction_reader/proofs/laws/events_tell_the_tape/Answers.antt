use Rattle.direction_reader.proofs.TellsTheTape.{tells_the_tape}
use Rattle.direction_reader.proofs.laws.events_tell_the_tape.Goals as goal

pub returns : goal.returns
returns c = tells_the_tape (record {
  cells = c.events_are_those_that_are_spelled.ensures.cells;
  gathered = c.events_are_those_that_are_spelled.ensures.gathered;
  listed = c.events_are_those_that_are_spelled.ensures.listed;
})
    c.a_list_has_one_list_of_stretches.ensures.one
    c.a_recording_within_the_tolerance_is_one_stretch.ensures.one
