use Rattle.std.proofs.Common.{◌∙◌, ap₂}
use Rattle.signal_commands.proofs.wav_path.WavPathCommand.work.Goals as goal

-- the choice of the engine is that of the words
pub returns : goal.returns
returns g c = c.read.ensures _ (ap₂ (λ asked words. (asked, words))
    (c.before-listening.ensures.asked ∙ c.new-file.ensures.asked ∙ c.asked.ensures.value)
    c.before-listening.ensures.words)
