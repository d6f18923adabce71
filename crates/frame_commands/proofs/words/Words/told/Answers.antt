use Rattle.std.proofs.Common.{◌≡◌, ◌++◌, ◌∙◌, ap, ap₂, [], List, sym}
use Rattle.std.specs.Option.{option_to_list}
use Rattle.direction_reader.specs.FirmStep.{firm_listed}
use Rattle.flywheel.specs.declared.heard.HeardWord.{HeardWord}
use Rattle.frame_commands.specs.Heard.{told_events}
use Rattle.frame_commands.specs.OfFrames.{words_heard}
use Rattle.frame_commands.proofs.HeardWords.{unheld_words}
use Rattle.frame_commands.proofs.words.Words.told.Goals as goal

-- no word was held, and what comes third is none
pub returns-in-None : goal.returns-in-None
returns-in-None c =
    let none : words_heard (told_events (firm_listed c.args.told.held)) ≡ [] =
    sym c.told_in.ensures ∙ ap option_to_list c.in-None.is in
    ap₂ (λ (a b : List HeardWord). a ++ b) c.told_in-first.ensures c.told_in-second.ensures
    ∙ sym (unheld_words c.args.told c.requires.third none)
