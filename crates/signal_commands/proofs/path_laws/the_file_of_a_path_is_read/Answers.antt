use Rattle.signal_commands.proofs.ReadPath.{path_is_read, track_is_read}
use Rattle.signal_commands.proofs.path_laws.the_file_of_a_path_is_read.Goals as goal

pub returns-clause-path : goal.returns-clause-path
returns-clause-path c = path_is_read (record {
  said = c.each_interval_of_a_sound_can_be_said.ensures.said;
  files = c.a_file_is_read_as_it_was_written.ensures.read;
  rates = c.the_rate_of_a_format_is_judged.ensures;
})

pub returns-clause-track : goal.returns-clause-track
returns-clause-track c = track_is_read (record {
  said = c.each_interval_of_a_sound_can_be_said.ensures.said;
  files = c.a_file_is_read_as_it_was_written.ensures.read;
  rates = c.the_rate_of_a_format_is_judged.ensures;
})
