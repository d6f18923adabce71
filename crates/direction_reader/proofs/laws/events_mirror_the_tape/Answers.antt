use Rattle.direction_reader.proofs.MirroredEvents.{mirrors_the_tape}
use Rattle.direction_reader.proofs.laws.events_mirror_the_tape.Goals as goal

pub returns : goal.returns
returns c = mirrors_the_tape (record {
  cells = c.events_are_those_that_are_spelled.ensures.cells;
  gathered = c.events_are_those_that_are_spelled.ensures.gathered;
  listed = c.events_are_those_that_are_spelled.ensures.listed;
})
    (record { one_word = c.spelling_is_exact.ensures.one_word; no_fault = c.spelling_is_exact.ensures.no_fault })
    c.reversed_twice_is_the_same.ensures.twice
    c.a_mirrored_recording_has_the_mirrored_cells.ensures
    c.a_recording_within_the_tolerance_is_one_stretch.ensures.one
    c.a_list_has_one_list_of_stretches.ensures.one
