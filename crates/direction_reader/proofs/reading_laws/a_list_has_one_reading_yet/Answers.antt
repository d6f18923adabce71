use Rattle.direction_reader.proofs.EachReading.{one_yet, some_yet, Plain}
use Rattle.direction_reader.proofs.reading_laws.a_list_has_one_reading_yet.Goals as goal

pub returns-clause-some : goal.returns-clause-some
returns-clause-some c =
    let plain : Plain = record {
      some = c.each_list_has_events.ensures;
      one = c.a_list_has_one_list_of_events.ensures;
    } in
    some_yet plain c.a_list_has_one_list_of_told_events.ensures.some
    c.a_list_has_one_list_of_consecutive_told.ensures.some c.a_list_has_one_list_of_counted_told.ensures.some

pub returns-clause-one : goal.returns-clause-one
returns-clause-one c =
    let plain : Plain = record {
      some = c.each_list_has_events.ensures;
      one = c.a_list_has_one_list_of_events.ensures;
    } in
    one_yet plain c.a_list_has_one_list_of_told_events.ensures.one
    c.a_list_has_one_list_of_consecutive_told.ensures.one c.a_list_has_one_list_of_counted_told.ensures.one
