use Rattle.direction_reader.proofs.EachReading.{all_first, yet_first, PlainFirst}
use Rattle.direction_reader.proofs.reading_laws.what_is_told_comes_first.Goals as goal

pub returns-clause-all : goal.returns-clause-all
returns-clause-all c =
    let plain : PlainFirst = record {
      first = c.events_of_a_front_come_first.ensures.first;
      later = c.events_of_a_front_come_first.ensures.later;
    } in
    all_first plain c.told_events_come_first.ensures.all c.consecutive_told_come_first.ensures.all
    c.counted_told_come_first.ensures.all

pub returns-clause-more : goal.returns-clause-more
returns-clause-more c =
    let plain : PlainFirst = record {
      first = c.events_of_a_front_come_first.ensures.first;
      later = c.events_of_a_front_come_first.ensures.later;
    } in
    yet_first plain c.told_events_come_first.ensures.more c.consecutive_told_come_first.ensures.more
    c.counted_told_come_first.ensures.more
