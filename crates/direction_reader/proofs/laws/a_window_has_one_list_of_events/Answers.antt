use Rattle.direction_reader.proofs.OneList.{one_list}
use Rattle.direction_reader.proofs.laws.a_window_has_one_list_of_events.Goals as goal

pub returns : goal.returns
returns c = one_list (record {
  one_word = c.spelling_is_exact.ensures.one_word;
  no_fault = c.spelling_is_exact.ensures.no_fault;
})
