use Rattle.direction_reader.proofs.EachReading.{one_of, some_of, Plain}
use Rattle.direction_reader.proofs.reading_laws.a_list_has_one_reading.Goals as goal

pub returns-clause-some : goal.returns-clause-some
returns-clause-some c =
    let plain : Plain = record {
      some = c.each_list_has_events.ensures;
      one = c.a_list_has_one_list_of_events.ensures;
    } in
    some_of plain c.a_list_has_one_list_of_firm_events.ensures.some
    c.a_list_has_one_list_of_consecutive_events.ensures.some
    c.a_list_has_one_list_of_counted_events.ensures.some

pub returns-clause-one : goal.returns-clause-one
returns-clause-one c =
    let plain : Plain = record {
      some = c.each_list_has_events.ensures;
      one = c.a_list_has_one_list_of_events.ensures;
    } in
    one_of plain c.a_list_has_one_list_of_firm_events.ensures.one
    c.a_list_has_one_list_of_consecutive_events.ensures.one c.a_list_has_one_list_of_counted_events.ensures.one
