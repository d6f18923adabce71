use Rattle.std.proofs.Common.{◌++◌, ◌∙◌, ap₂, sym, List}
use Rattle.std.proofs.lemmas.List.{map-append}
use Rattle.direction_reader.specs.declared.event.Event.{Event}
use Rattle.direction_reader.specs.declared.firm_event.FirmEvent.{FirmEvent}
use Rattle.direction_reader.specs.declared.firm_event.FirmEvent.TheVariants.{Told}
use Rattle.direction_reader.specs.Events.{event_list}
use Rattle.direction_reader.proofs.reading.DirectionReaderReading.step.Goals as goal

-- each event is told as it is
pub returns-clause-stands : goal.returns-clause-stands
returns-clause-stands c = λ intervals told own stands tells.
    let more = event_list tells.0 in (
      stands.0 ++ more,
      ap₂ (λ (a b : List FirmEvent). a ++ b) stands.1 tells.2
          ∙ sym (map-append (λ (event : Event). Told event) stands.0 more),
      c.step.ensures.stands intervals stands.0 tells.0 stands.2 tells.1,
    )
