use Rattle.direction_reader.proofs.KnownOfLists.{FrontLaws, OrderLaws, all_behind, more_behind}
use Rattle.direction_reader.proofs.firm_laws.told_events_come_first.Goals as goal

pub returns-clause-all : goal.returns-clause-all
returns-clause-all c =
    let order : OrderLaws = record {
      one = c.a_list_has_one_list_of_stretches.ensures.one;
      events = c.each_list_has_events.ensures;
      order = c.events_come_in_order.ensures;
    } in
    let fronts : FrontLaws = record {
      order = order;
      go_on = c.stretches_go_on.ensures;
      first = c.events_of_a_front_come_first.ensures.first;
      later = c.events_of_a_front_come_first.ensures.later;
    } in
    all_behind fronts

pub returns-clause-more : goal.returns-clause-more
returns-clause-more c =
    let order : OrderLaws = record {
      one = c.a_list_has_one_list_of_stretches.ensures.one;
      events = c.each_list_has_events.ensures;
      order = c.events_come_in_order.ensures;
    } in
    let fronts : FrontLaws = record {
      order = order;
      go_on = c.stretches_go_on.ensures;
      first = c.events_of_a_front_come_first.ensures.first;
      later = c.events_of_a_front_come_first.ensures.later;
    } in
    more_behind fronts
