use Rattle.signal_commands.proofs.SentIsRead.{midi_is_kept}
use Rattle.signal_commands.proofs.mtc_read.MtcReadCommand.keeps_its_promise.Goals as goal

pub returns : goal.returns
returns c = midi_is_kept (record {
  stay = c.earlier_events_stay.ensures;
  forward = c.a_run_is_read_back.ensures.forward;
  backward = c.a_run_is_read_back.ensures.backward;
  among = c.real_time_bytes_change_places_only.ensures.same;
  some = c.bytes_are_one_list_of_messages.ensures.some;
  one = c.bytes_are_one_list_of_messages.ensures.one;
  carried = c.messages_carry_the_events.ensures.among;
  whole = c.messages_carry_the_events.ensures.whole;
  places = c.messages_carry_the_events.ensures.places;
})
