use Rattle.signal_commands.proofs.FieldsTold.{fields_are_lawful}
use Rattle.signal_commands.proofs.vitc_read.VitcReadCommand.is_lawful.Goals as goal

pub returns : goal.returns
returns c = λ command. fields_are_lawful c.each_signal_makes_a_command.ensures.fields c.a_file_is_read_as_it_was_written.ensures
