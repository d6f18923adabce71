use Rattle.direction_reader.proofs.FindsTheTape.{finds_behind_ones}
use Rattle.direction_reader.proofs.laws.events_find_the_tape_behind_even_ones.Goals as goal

pub returns : goal.returns
returns c = finds_behind_ones (record {
  cells = c.events_are_those_that_are_spelled.ensures.cells;
  gathered = c.events_are_those_that_are_spelled.ensures.gathered;
  listed = c.events_are_those_that_are_spelled.ensures.listed;
}) c.a_recording_is_found_again_behind_even_ones.ensures (record {
  exist = c.each_list_has_events.ensures;
  first = c.events_of_a_front_come_first.ensures.first;
  behind = c.events_of_a_front_come_first.ensures.behind;
})
