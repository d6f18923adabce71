use Rattle.direction_reader.proofs.EventsExist.{window_events}
use Rattle.direction_reader.proofs.laws.each_window_has_events.Goals as goal

pub returns : goal.returns
returns c = window_events (record {
  word_or_fault = c.bits_in_sync_spell_a_word_or_have_a_fault.ensures;
  width = c.reversed_twice_is_the_same.ensures.width;
})
