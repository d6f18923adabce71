use Rattle.std.proofs.Common.{◌∙◌, ap, ap₂, subst, sym}
use Rattle.std.specs.Prelude.{◌++◌, None, List}
use Rattle.direction_reader.specs.declared.firm_event.FirmEvent.{FirmEvent}
use Rattle.direction_reader.specs.CountedStep.{held_alone, CountedStandsFor, CountedState}
use Rattle.direction_reader.specs.StandsFor.{StandsFor}
use Rattle.direction_reader.proofs.CountedLists.{all_but_held}
use Rattle.direction_reader.proofs.counted.CountedReader.finish.Goals as goal

-- what is given lies within the ticks
pub returns-clause-brings : goal.returns-clause-brings
returns-clause-brings c =
    let r = c.self.inside.reader in
    rw (← c.self.view_is) (c.last.ensures.brings r.intervals r.tick c.self.invariant)

-- and is, behind what was given, what becomes of the whole list
pub returns-clause-all : goal.returns-clause-all
returns-clause-all c = λ intervals told stands.
    let is = subst (λ (r : CountedState). CountedStandsFor r intervals told) (sym c.self.view_is) stands in (
      is.events,
      c.a_reader_gives_the_events_of_its_list.ensures _ intervals is.events (subst (λ (r : CountedState). StandsFor r.reader intervals is.events) c.self.view_is is.reader),
      ap₂ (λ (ts us : List FirmEvent). ts ++ us) is.all (c.last.ensures.told ∙ ap held_alone is.held)
          ∙ sym (all_but_held None is.events),
    )
