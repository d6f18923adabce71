-- What a reading tells is heard, without the words that are alone.
use Rattle.std.proofs.Common.{◌≡◌, ℕ, List, [], ◌∷◌, refl, sym, ◌∙◌, ap, subst}
use Rattle.biphase.specs.declared.profile.Profile.{Profile}
use Rattle.tc_address.specs.declared.system.System.{System}
use Rattle.direction_reader.specs.declared.event.Event.{Event}
use Rattle.direction_reader.specs.declared.firm_event.FirmEvent.{FirmEvent}
use Rattle.direction_reader.specs.declared.witness.Witness.{Witness}
use Rattle.direction_reader.specs.declared.witness.Witness.TheVariants.{NotAsked, Asked, Consecutive, Counted}
use Rattle.direction_reader.specs.ListEvents.{AreEvents}
use Rattle.direction_reader.specs.Reading.{as_told, AreEventsAsked, AreToldAsked}
use Rattle.frame_commands.specs.Heard.{told_events, AreHeard, AreHeardYet}
use Rattle.frame_commands.specs.KeptHearing.{asked_as}

-- of words as they are none is alone
told_all : (events : List Event) → told_events (as_told events) ≡ events
told_all [] = refl
told_all (event ∷ more) = ap (λ (es : List Event). event ∷ es) (told_all more)

as_they_are : (system : System) (profile : Profile) (l : List ℕ) (told : List FirmEvent)
    → AreEventsAsked NotAsked system profile l told → AreEvents system profile l (told_events told)
as_they_are system profile l told are =
    subst (λ (es : List Event). AreEvents system profile l es) (sym (ap told_events are.1 ∙ told_all are.0)) are.2

pub heard_whole : (w : Witness) (system : System) (profile : Profile) (l : List ℕ) (told : List FirmEvent)
    → AreEventsAsked w system profile l told → AreHeard (asked_as w) system profile l (told_events told)
heard_whole NotAsked system profile l told are = as_they_are system profile l told are
heard_whole Asked system profile l told are = (told, are, refl)
heard_whole Consecutive system profile l told are = (told, are, refl)
heard_whole Counted system profile l told are = (told, are, refl)

pub heard_yet : (w : Witness) (system : System) (profile : Profile) (l : List ℕ) (told : List FirmEvent) (until : ℕ)
    → AreToldAsked w system profile l told until → AreHeardYet (asked_as w) system profile l (told_events told) until
heard_yet NotAsked system profile l told until are = (as_they_are system profile l told are.0, are.1)
heard_yet Asked system profile l told until are = (told, are, refl)
heard_yet Consecutive system profile l told until are = (told, are, refl)
heard_yet Counted system profile l told until are = (told, are, refl)
