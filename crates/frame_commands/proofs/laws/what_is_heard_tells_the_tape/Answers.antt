use Rattle.frame_commands.proofs.TapeIsHeard.{tape_is_heard}
use Rattle.frame_commands.proofs.laws.what_is_heard_tells_the_tape.Goals as goal

pub returns : goal.returns
returns c = tape_is_heard (record {
  some = c.each_list_has_events.ensures;
  truth = c.events_tell_the_tape.ensures;
  damage = c.events_find_the_tape_again.ensures;
  rough_damage = c.events_find_the_tape_behind_even_ones.ensures;
  judged = c.a_witness_changes_words_alone.ensures;
  witnessed = c.each_word_that_is_told_has_its_witness.ensures.list;
  judged_too = c.the_next_word_changes_words_alone.ensures.plain;
  backed = c.each_word_has_its_witness_or_its_next_word.ensures;
  judged_counted = c.counting_changes_words_alone.ensures;
  each_counts = c.each_word_that_is_told_counts.ensures;
})
