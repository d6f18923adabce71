use Rattle.interval_commands.proofs.Backing.{backing_laws}
use Rattle.interval_commands.proofs.FirmlyReports.{firm_report_is_kept}
use Rattle.interval_commands.proofs.firm_report.a_backed_report_keeps_its_promise.Goals as goal

pub returns : goal.returns
returns c = λ backing profile. firm_report_is_kept backing (backing_laws (record {
  judged = c.a_witness_changes_words_alone.ensures;
  backed = c.each_word_that_is_told_has_its_witness.ensures.list;
  tape = c.firm_events_tell_the_tape.ensures;
}) (record {
  judged = c.the_next_word_changes_words_alone.ensures.plain;
  backed = c.each_word_has_its_witness_or_its_next_word.ensures;
  tape = c.consecutive_events_tell_the_tape.ensures;
}) (record {
  judged = c.counting_changes_words_alone.ensures;
  backed = c.each_word_that_is_told_counts.ensures;
  tape = c.counted_events_tell_the_tape.ensures;
}) backing) (record {
  plain = c.each_list_has_events.ensures;
  tell = record {
    truth = c.events_tell_the_tape.ensures;
    damage = c.events_find_the_tape_again.ensures;
    rough_damage = c.events_find_the_tape_behind_even_ones.ensures;
    mirror = c.events_mirror_the_tape.ensures;
  };
}) profile
