use Rattle.frame_commands.proofs.HeardInTurn.{in_order}
use Rattle.frame_commands.proofs.laws.what_is_heard_is_in_order.Goals as goal

pub returns : goal.returns
returns c = in_order (record {
  some = c.each_list_has_events.ensures;
  one = c.a_list_has_one_list_of_events.ensures;
  first = c.events_of_a_front_come_first.ensures.first;
  later = c.events_of_a_front_come_first.ensures.later;
}) (record {
  some_yet = c.a_list_has_one_list_of_told_events.ensures.some;
  some = c.a_list_has_one_list_of_firm_events.ensures.some;
  one_yet = c.a_list_has_one_list_of_told_events.ensures.one;
  one = c.a_list_has_one_list_of_firm_events.ensures.one;
  more = c.told_events_come_first.ensures.more;
  all = c.told_events_come_first.ensures.all;
}) (record {
  some_yet = c.a_list_has_one_list_of_consecutive_told.ensures.some;
  some = c.a_list_has_one_list_of_consecutive_events.ensures.some;
  one_yet = c.a_list_has_one_list_of_consecutive_told.ensures.one;
  one = c.a_list_has_one_list_of_consecutive_events.ensures.one;
  more = c.consecutive_told_come_first.ensures.more;
  all = c.consecutive_told_come_first.ensures.all;
}) (record {
  some_yet = c.a_list_has_one_list_of_counted_told.ensures.some;
  some = c.a_list_has_one_list_of_counted_events.ensures.some;
  one_yet = c.a_list_has_one_list_of_counted_told.ensures.one;
  one = c.a_list_has_one_list_of_counted_events.ensures.one;
  more = c.counted_told_come_first.ensures.more;
  all = c.counted_told_come_first.ensures.all;
})
