use Rattle.frame_commands.proofs.HeardLabels.{heard_labels}
use Rattle.frame_commands.proofs.laws.what_is_heard_has_labels_of_its_system.Goals as goal

pub returns : goal.returns
returns c = heard_labels (record {
  some = c.each_list_has_events.ensures;
  labels = c.what_is_read_has_labels_of_its_system.ensures.events;
  judged_are = c.a_witness_changes_words_alone.ensures;
  judged_too = c.the_next_word_changes_words_alone.ensures.plain;
  judged_counted = c.counting_changes_words_alone.ensures;
})
