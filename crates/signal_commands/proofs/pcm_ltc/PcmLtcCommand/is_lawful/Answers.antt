use Rattle.signal_commands.proofs.SoundCovered.{sound_is_lawful}
use Rattle.signal_commands.proofs.pcm_ltc.PcmLtcCommand.is_lawful.Goals as goal

pub returns : goal.returns
returns c = λ command. sound_is_lawful c.each_signal_makes_a_command.ensures.samples command.slicing
