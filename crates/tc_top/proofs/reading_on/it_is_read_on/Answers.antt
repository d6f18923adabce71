use Rattle.tc_top.proofs.ReadOn.{read_on}
use Rattle.tc_top.proofs.reading_on.it_is_read_on.Goals as goal

pub returns : goal.returns
returns c = read_on (record {
  one_list = c.a_list_has_one_list_of_events.ensures;
  labels = c.what_is_heard_has_labels_of_its_system.ensures;
  back = c.what_is_sent_is_read_back.ensures.events;
  numbers = record {
    number = c.number_and_label_are_inverse.ensures.number;
    below = c.number_and_label_are_inverse.ensures.below;
  };
  forms = record {
    each = c.each_command_has_its_usage.ensures.each;
    once = c.each_form_is_taken.ensures.once;
    only = c.each_command_has_its_usage.ensures.only;
    taken = c.each_form_is_taken.ensures.taken;
  };
  pages = record {
    listed = c.each_page_lists_what_is_taken.ensures.listed;
    shown = c.each_page_tells_what_is_read.ensures.shown;
    examples = c.each_page_tells_what_is_read.ensures.examples;
    read = c.each_page_tells_what_is_read.ensures.read;
    named = c.each_page_tells_what_is_read.ensures.named;
    notes = c.help_tells_of_each_status.ensures.notes;
    numbers = c.help_tells_of_each_status.ensures.numbers;
  };
  sound = record {
    inputs = c.bytes_are_read_as_the_text_says.ensures.input;
    files = c.a_file_is_read_as_it_was_written.ensures.read;
    samples = c.samples_are_read_as_they_were_written.ensures.sound;
    apart = c.a_sound_is_sliced_into_its_intervals.ensures.distances;
    sliced = c.a_sound_is_sliced_into_its_intervals.ensures.intervals;
    alone = c.sums_of_one_are_the_samples.ensures.sums;
    followed = c.a_sound_is_sliced_at_a_threshold_that_follows.ensures.follow;
    behind = c.a_sound_is_sliced_at_a_threshold_that_follows.ensures.behind;
  };
  answers = record {
    some = c.bytes_have_answers.ensures;
    one = c.bytes_have_one_list_of_answers.ensures;
  };
  path = c.the_file_of_a_path_is_read.ensures.path;
  track = c.the_file_of_a_path_is_read.ensures.track;
  again = c.answers_are_answered_again.ensures.again;
}) c.args.job.now c.has_a_level_of_samples.ensures c.has_a_path.ensures c.has_told_pixels.ensures
