use Rattle.interval_commands.proofs.ToldOfCopies.{conversion_is_lawful}
use Rattle.interval_commands.proofs.ltc_convert.LtcConvertCommand.is_lawful.Goals as goal

pub returns : goal.returns
returns c = λ command. conversion_is_lawful c.recordings_grow.ensures c.what_is_printed_is_in_order.ensures.conversion
    c.a_file_is_read_as_it_was_written.ensures.one_recording command.version
