use Rattle.signal_commands.proofs.SentIsRead.{midi_is_lawful}
use Rattle.signal_commands.proofs.mtc_read.MtcReadCommand.is_lawful.Goals as goal

pub returns : goal.returns
returns c = λ command. midi_is_lawful c.each_signal_makes_a_command.ensures.midi
