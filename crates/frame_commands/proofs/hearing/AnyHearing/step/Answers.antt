use Rattle.std.proofs.Common.{◌++◌, ◌∙◌, ap₂, List, sym}
use Rattle.direction_reader.specs.declared.event.Event.{Event}
use Rattle.frame_commands.proofs.HeardWords.{told_events-append}
use Rattle.frame_commands.proofs.hearing.AnyHearing.step.Goals as goal

-- it stands for one interval more
pub returns-clause-stands : goal.returns-clause-stands
returns-clause-stands g c = λ intervals events own stands tells. (
  stands.0 ++ tells.0,
  c.step.ensures.stands intervals stands.0 tells.0 stands.1 tells.1,
  ap₂ (λ (a b : List Event). a ++ b) stands.2 tells.2 ∙ sym (told_events-append stands.0 tells.0),
)
