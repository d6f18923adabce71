use Rattle.signal_commands.proofs.PathLasts.{path_is_lawful}
use Rattle.signal_commands.proofs.pcm_path.PcmPathCommand.is_lawful.Goals as goal

pub returns : goal.returns
returns c = λ command. path_is_lawful c.each_signal_makes_a_command.ensures.paths command.path
