-- What is heard with witnesses is some of what is read without, so its words have labels of the system too.
use Rattle.std.proofs.Common.{ℕ, Bool, true, false, List, [], ◌∷◌, sym, subst}
use Rattle.std.specs.List.{AllZip}
use Rattle.biphase.specs.declared.profile.Profile.{Profile}
use Rattle.direction_reader.specs.declared.event.Event.{Event}
use Rattle.direction_reader.specs.declared.event.Event.TheVariants.{Word, Refused, Lost}
use Rattle.direction_reader.specs.declared.firm_event.FirmEvent.{FirmEvent}
use Rattle.direction_reader.specs.Consecutive.{AreConsecutiveEvents}
use Rattle.direction_reader.specs.Counted.{AreCountedEvents}
use Rattle.direction_reader.specs.Firm.{AreFirmEvents, judged}
use Rattle.direction_reader.specs.FirmTape.{IsJudged}
use Rattle.direction_reader.specs.ListEvents.{AreEvents}
use Rattle.ltc_jam.specs.Labels.{AreEventsOf, IsEventOf}
use Rattle.tc_address.specs.declared.system.System.{System}
use Rattle.tc_job.specs.declared.witness.Witness.{Witness}
use Rattle.tc_job.specs.declared.witness.Witness.TheVariants.{NotAsked, Asked, Consecutive, Counted}
use Rattle.frame_commands.specs.Heard.{AreHeard, told_events}

one_judged : (system : System) (firm : Bool) (e : Event) (fs : List FirmEvent) → IsEventOf system e
    → AreEventsOf system (told_events fs) → AreEventsOf system (told_events (judged firm e ∷ fs))
one_judged system true (Word d w t n) fs is rest = (is, rest)
one_judged system false (Word d w t n) fs is rest = rest
one_judged system firm (Refused d f t) fs is rest = (tt, rest)
one_judged system firm (Lost p t) fs is rest = (tt, rest)

all_judged : (system : System) (es : List Event) (fs : List FirmEvent) → AllZip IsJudged es fs → AreEventsOf system es
    → AreEventsOf system (told_events fs)
all_judged system [] [] zip are = tt
all_judged system [] (f ∷ fs) zip are = absurd zip
all_judged system (e ∷ es) [] zip are = absurd zip
all_judged system (e ∷ es) (f ∷ fs) zip are =
    subst (λ (g : FirmEvent). AreEventsOf system (told_events (g ∷ fs))) (sym zip.0.1)
    (one_judged system zip.0.0 e fs are.0 (all_judged system es fs zip.1 are.1))

pub record LabelLaws : Type 0 where
  pub some : (system : System) (profile : Profile) (intervals : List ℕ)
      → (events : List Event) × AreEvents system profile intervals events
  pub labels : (system : System) (profile : Profile) (intervals : List ℕ) (events : List Event)
      → AreEvents system profile intervals events → AreEventsOf system events
  pub judged_are : (system : System) (profile : Profile) (intervals : List ℕ) (events : List Event)
      (told : List FirmEvent) → AreEvents system profile intervals events
      → AreFirmEvents system profile intervals told → AllZip IsJudged events told
  pub judged_too : (system : System) (profile : Profile) (intervals : List ℕ) (events : List Event)
      (told : List FirmEvent) → AreEvents system profile intervals events
      → AreConsecutiveEvents system profile intervals told → AllZip IsJudged events told
  pub judged_counted : (system : System) (profile : Profile) (intervals : List ℕ) (events : List Event)
      (told : List FirmEvent) → AreEvents system profile intervals events
      → AreCountedEvents system profile intervals told → AllZip IsJudged events told

pub heard_labels : LabelLaws → (witness : Witness) (system : System) (profile : Profile) (intervals : List ℕ)
    (events : List Event) → AreHeard witness system profile intervals events → AreEventsOf system events
heard_labels laws NotAsked system profile intervals events are = laws.labels system profile intervals events are
heard_labels laws Asked system profile intervals events are =
    let plain = laws.some system profile intervals in
    subst (λ (es : List Event). AreEventsOf system es) (sym are.2)
    (all_judged system plain.0 are.0 (laws.judged_are system profile intervals plain.0 are.0 plain.1 are.1)
    (laws.labels system profile intervals plain.0 plain.1))
heard_labels laws Consecutive system profile intervals events are =
    let plain = laws.some system profile intervals in
    subst (λ (es : List Event). AreEventsOf system es) (sym are.2)
    (all_judged system plain.0 are.0 (laws.judged_too system profile intervals plain.0 are.0 plain.1 are.1)
    (laws.labels system profile intervals plain.0 plain.1))
heard_labels laws Counted system profile intervals events are =
    let plain = laws.some system profile intervals in
    subst (λ (es : List Event). AreEventsOf system es) (sym are.2)
    (all_judged system plain.0 are.0 (laws.judged_counted system profile intervals plain.0 are.0 plain.1 are.1)
    (laws.labels system profile intervals plain.0 plain.1))
