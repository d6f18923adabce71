use Rattle.sound_reader.proofs.ToldLater.{all_else, settled_sum}
use Rattle.sound_reader.proofs.laws.what_is_told_later_ends_later.Goals as goal

pub returns-clause-later : goal.returns-clause-later
returns-clause-later c = all_else (record {
  events = c.a_reader_gives_the_events_of_its_list.ensures;
  first = c.events_of_a_front_come_first.ensures.first;
  later = c.events_of_a_front_come_first.ensures.later;
  grow = c.intervals_of_a_front_come_first.ensures;
})

pub returns-clause-settled : goal.returns-clause-settled
returns-clause-settled c = settled_sum
