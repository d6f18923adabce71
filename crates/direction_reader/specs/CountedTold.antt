-- What is given of a list of intervals while more may follow, and up to which tick, where a word counts only with one
-- that counts on: all but the last event, if the next one decides whether it counts.
use Rattle.std.specs.Prelude.{◌≡◌, ℕ, List, [], ◌∷◌, sum, Option, Some, None, if◌then◌else◌}
use Rattle.biphase.specs.declared.profile.Profile.{Profile}
use Rattle.flywheel.specs.declared.heard.HeardWord.{HeardWord}
use Rattle.tc_address.specs.declared.system.System.{System}
use Rattle.direction_reader.specs.declared.event.Event.{Event}
use Rattle.direction_reader.specs.declared.event.Event.TheVariants.{Word, Refused, Lost}
use Rattle.direction_reader.specs.declared.firm_event.FirmEvent.{FirmEvent}
use Rattle.direction_reader.specs.declared.firm_event.FirmEvent.TheVariants.{Told}
use Rattle.direction_reader.specs.Consecutive.{heard_as}
use Rattle.direction_reader.specs.Counted.{counts_on, does_count, heard_of, later_word}
use Rattle.direction_reader.specs.Events.{tick_of}
use Rattle.direction_reader.specs.Firm.{judged}
use Rattle.direction_reader.specs.ListEvents.{AreEvents}

-- the event, if the next one decides whether it counts: a word that does not count on from the latest one before it
abbrev pub undecided : Option HeardWord → Event → Option Event
undecided before (Word direction word tick length) =
    if counts_on before (Some (heard_as direction word tick length)) then None
    else Some (Word direction word tick length)
undecided before (Refused direction fault tick) = None
undecided before (Lost interval tick) = None

-- of events behind a word that may be there, the last one, if the next one decides whether it counts
abbrev pub held_behind : Option HeardWord → List Event → Option Event
held_behind before [] = None
held_behind before (event ∷ []) = undecided before event
held_behind before (event ∷ next ∷ more) = held_behind (later_word before (heard_of event)) (next ∷ more)

-- what is told of an event of which another is held
abbrev pub told_without : Option Event → Event → List FirmEvent
told_without None event = Told event ∷ []
told_without (Some held) event = []

-- what is told of events behind a word that may be there
abbrev pub told_behind : Option HeardWord → List Event → List FirmEvent
told_behind before [] = []
told_behind before (event ∷ []) = told_without (undecided before event) event
told_behind before (event ∷ next ∷ more) =
    judged (does_count before event (Some next)) event
    ∷ told_behind (later_word before (heard_of event)) (next ∷ more)

-- up to which tick all is told: up to this one, and up to that of an event that is held
abbrev pub until_held : ℕ → Option Event → ℕ
until_held now None = now
until_held now (Some event) = tick_of event

-- what is told of a list of intervals while more may follow, and up to which tick
abbrev pub AreCountedTold : System → Profile → List ℕ → List FirmEvent → ℕ → Type 0
AreCountedTold system profile intervals told until = (events : List Event)
    × AreEvents system profile intervals events × (told ≡ told_behind None events)
    × (until ≡ until_held (sum intervals) (held_behind None events))
