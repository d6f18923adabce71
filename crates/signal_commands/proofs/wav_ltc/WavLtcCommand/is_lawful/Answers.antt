use Rattle.signal_commands.proofs.TrackOfAFile.{track_is_lawful}
use Rattle.signal_commands.proofs.wav_ltc.WavLtcCommand.is_lawful.Goals as goal

pub returns : goal.returns
returns c = λ command. track_is_lawful c.each_signal_makes_a_command.ensures.tracks command.slicing
