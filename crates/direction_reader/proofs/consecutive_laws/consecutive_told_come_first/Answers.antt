use Rattle.std.proofs.Common.{◌++◌, sum}
use Rattle.direction_reader.proofs.KnownOfLists.{OrderLaws}
use Rattle.direction_reader.proofs.NextWordFronts.{first_of_all, first_of_more, held_by_tick}
use Rattle.direction_reader.proofs.consecutive_laws.consecutive_told_come_first.Goals as goal

pub returns-clause-all : goal.returns-clause-all
returns-clause-all c = λ system profile front more told events until one all.
    let order : OrderLaws = record {
      one = c.a_list_has_one_list_of_stretches.ensures.one;
      events = c.each_list_has_events.ensures;
      order = c.events_come_in_order.ensures;
    } in
    first_of_all one.0 told all.0 events one.1 until (sum (front ++ more))
    (c.told_events_come_first.ensures.all system profile front more one.0 all.0 one.1 one.2 all.1) one.3
    (held_by_tick order system profile front one.0 one.1 one.2) one.4 all.2

pub returns-clause-more : goal.returns-clause-more
returns-clause-more c = λ system profile front more told later until now one two.
    let order : OrderLaws = record {
      one = c.a_list_has_one_list_of_stretches.ensures.one;
      events = c.each_list_has_events.ensures;
      order = c.events_come_in_order.ensures;
    } in
    first_of_more one.0 told two.0 later one.1 until two.1 now
    (c.told_events_come_first.ensures.more system profile front more one.0 two.0 one.1 two.1 one.2 two.2) one.3
    (held_by_tick order system profile front one.0 one.1 one.2) one.4 two.3 two.4
