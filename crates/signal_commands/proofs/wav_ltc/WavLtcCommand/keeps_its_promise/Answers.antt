use Rattle.signal_commands.proofs.TrackOfAFile.{track_is_kept}
use Rattle.signal_commands.proofs.wav_ltc.WavLtcCommand.keeps_its_promise.Goals as goal

pub returns : goal.returns
returns c =
    track_is_kept c.a_file_is_read_as_it_was_written.ensures c.intervals_tell_the_crossings.ensures c.args.self.now.slicing
    c.track-track.ensures.valid
