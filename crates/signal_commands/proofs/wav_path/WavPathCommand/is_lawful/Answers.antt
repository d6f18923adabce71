use Rattle.tc_command.specs.ToldLemmas.{meaning_is_lawful}
use Rattle.signal_commands.proofs.wav_path.WavPathCommand.is_lawful.Goals as goal

pub returns : goal.returns
returns c = λ command.
    meaning_is_lawful _ (c.each_signal_makes_a_command.ensures.track_paths command.path) (λ input spent. spent)
