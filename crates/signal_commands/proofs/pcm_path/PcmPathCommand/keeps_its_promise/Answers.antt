use Rattle.signal_commands.proofs.PathLasts.{path_is_kept}
use Rattle.signal_commands.proofs.pcm_path.PcmPathCommand.keeps_its_promise.Goals as goal

pub returns : goal.returns
returns c =
    path_is_kept (record {
      one = c.a_sound_has_one_list_of_intervals.ensures;
      long = c.the_intervals_of_a_sound_last_as_long.ensures.long;
      steps = c.the_intervals_of_a_sound_last_as_long.ensures.steps;
    }) c.bytes_are_those_of_their_samples.ensures c.args.self.now.path c.ticks-ticks.ensures.valid
