use Rattle.signal_commands.proofs.AreCommands.{fields_are_command, midi_is_command, samples_are_command}
use Rattle.signal_commands.proofs.PathIsCommand.{path_is_command, PathLaws}
use Rattle.signal_commands.proofs.TrackGoesOn.{track_is_command}
use Rattle.signal_commands.proofs.TrackPathIsCommand.{track_path_is_command}
use Rattle.signal_commands.proofs.laws.each_signal_makes_a_command.Goals as goal

pub returns-clause-midi : goal.returns-clause-midi
returns-clause-midi c = midi_is_command c.earlier_events_stay.ensures

pub returns-clause-samples : goal.returns-clause-samples
returns-clause-samples c = samples_are_command c.intervals_of_a_front_come_first.ensures

pub returns-clause-tracks : goal.returns-clause-tracks
returns-clause-tracks c = track_is_command c.intervals_of_a_front_come_first.ensures
    c.what_a_sound_file_shows_stays.ensures

pub returns-clause-fields : goal.returns-clause-fields
returns-clause-fields c = fields_are_command (record {
  fault = c.what_bytes_show_stays.ensures.fault;
  limit = c.what_bytes_show_stays.ensures.limit;
  answers = c.answers_of_a_front_come_first.ensures;
  some = c.bytes_have_answers.ensures;
  one = c.bytes_have_one_list_of_answers.ensures;
})

-- what is known of the intervals of a path
path_laws : (c : goal.After-what_bytes_show_stays) → PathLaws
path_laws c =
    let laws = c.what_samples_bring_so_far_comes_first.ensures in
    record {
      once = laws.once;
      first = laws.first;
      in_all = laws.in_all;
      some = laws.some;
      whole = laws.whole;
      one = c.a_sound_has_one_list_of_intervals.ensures;
    }

pub returns-clause-paths : goal.returns-clause-paths
returns-clause-paths c = path_is_command (path_laws c)

pub returns-clause-track_paths : goal.returns-clause-track_paths
returns-clause-track_paths c =
    track_path_is_command (path_laws c) c.a_sound_file_has_steps_from_its_least_rate_on.ensures.from
    c.the_rate_of_a_format_is_judged.ensures c.what_a_sound_file_shows_stays.ensures
