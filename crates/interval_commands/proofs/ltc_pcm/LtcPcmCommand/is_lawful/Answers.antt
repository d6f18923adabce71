use Rattle.interval_commands.proofs.ToldOfCopies.{sound_is_lawful}
use Rattle.interval_commands.proofs.ltc_pcm.LtcPcmCommand.is_lawful.Goals as goal

pub returns : goal.returns
returns c = λ command. sound_is_lawful c.recordings_grow.ensures c.what_is_printed_is_in_order.ensures.sound command.level
