-- One reading of a recording, whatever its words are asked for: what is told of a list of intervals, and a reader in
-- numbers.
use Rattle.std.specs.Prelude.{◌≡◌, ℕ, ◌+◌, ◌*◌, ◌≤◌, List, [], ◌++◌, map, length, sum}
use Rattle.limits.specs.declared.recording.TheConstants.{MAX_INTERVAL}
use Rattle.biphase.specs.declared.profile.Profile.{Profile}
use Rattle.direction_reader.specs.declared.event.Event.{Event}
use Rattle.direction_reader.specs.declared.firm_event.FirmEvent.{FirmEvent}
use Rattle.direction_reader.specs.declared.firm_event.FirmEvent.TheVariants.{Told}
use Rattle.direction_reader.specs.declared.witness.Witness.{Witness}
use Rattle.direction_reader.specs.declared.witness.Witness.TheVariants.{NotAsked, Asked, Consecutive, Counted}
use Rattle.direction_reader.specs.Consecutive.{AreConsecutiveEvents}
use Rattle.direction_reader.specs.ConsecutiveTold.{AreConsecutiveTold}
use Rattle.direction_reader.specs.Counted.{AreCountedEvents}
use Rattle.direction_reader.specs.CountedTold.{AreCountedTold}
use Rattle.direction_reader.specs.Firm.{AreFirmEvents}
use Rattle.direction_reader.specs.FirmTold.{AreTold}
use Rattle.direction_reader.specs.ListEvents.{AreEvents}
use Rattle.tc_address.specs.declared.system.System.{System}

-- events as they are told where no word is asked for a witness
abbrev pub as_told : List Event → List FirmEvent
as_told events = map (λ (event : Event). Told event) events

-- the events of a list of intervals, by what each word is asked for
abbrev pub AreEventsAsked : Witness → System → Profile → List ℕ → List FirmEvent → Type 0
AreEventsAsked NotAsked system profile intervals told =
    (events : List Event) × (told ≡ as_told events) × AreEvents system profile intervals events
AreEventsAsked Asked system profile intervals told = AreFirmEvents system profile intervals told
AreEventsAsked Consecutive system profile intervals told = AreConsecutiveEvents system profile intervals told
AreEventsAsked Counted system profile intervals told = AreCountedEvents system profile intervals told

-- what is told of a list of intervals while more may follow, and up to which tick, by what each word is asked for:
-- where it is nothing, all events, up to the sum of the intervals
abbrev pub AreToldAsked : Witness → System → Profile → List ℕ → List FirmEvent → ℕ → Type 0
AreToldAsked NotAsked system profile intervals told until =
    AreEventsAsked NotAsked system profile intervals told × (until ≡ sum intervals)
AreToldAsked Asked system profile intervals told until = AreTold system profile intervals told until
AreToldAsked Consecutive system profile intervals told until = AreConsecutiveTold system profile intervals told until
AreToldAsked Counted system profile intervals told until = AreCountedTold system profile intervals told until

-- how many events are told at once, at most
abbrev pub most_told : Witness → ℕ
most_told NotAsked = 2
most_told Asked = 3
most_told Consecutive = 4
most_told Counted = 3

-- a reader: its system and tolerance, how many intervals it was given and their sum, up to which tick all is told, and
-- which intervals it was given, with what it has told of them
pub record ReadingState : Type 1 where
  pub system : System
  pub profile : Profile
  pub count : ℕ
  pub tick : ℕ
  pub until : ℕ
  pub stands : List ℕ → List FirmEvent → Type 0

-- from one state to a later one: it was given these intervals more, and told these events more
abbrev pub ReadsMore : ReadingState → ReadingState → List ℕ → List FirmEvent → Type 0
ReadsMore old new intervals own = (front : List ℕ) (told : List FirmEvent) → old.stands front told
    → new.stands (front ++ intervals) (told ++ own)

-- before the first interval
pub record BeginsReading (r : ReadingState) (system : System) (profile : Profile) : Type 0 where
  pub system_is : r.system ≡ system
  pub profile_is : r.profile ≡ profile
  pub count : r.count ≡ 0
  pub tick : r.tick ≡ 0
  pub until : r.until ≡ 0
  pub stands : r.stands [] []

-- one interval more
pub record ReadsOn (before : ReadingState) (x : ℕ) (now : ReadingState) : Type 0 where
  pub system_is : now.system ≡ before.system
  pub profile_is : now.profile ≡ before.profile
  pub count : now.count ≡ before.count + 1
  pub tick : now.tick ≡ before.tick + x
  pub most : now.tick ≤ now.count * MAX_INTERVAL
  pub later : before.until ≤ now.until
  pub within : now.until ≤ now.tick

-- what it has told is what is told of its list
pub record TellsItsList (witness : Witness) (r : ReadingState) (intervals : List ℕ) (told : List FirmEvent) : Type 0
  where
    pub count : r.count ≡ length intervals
    pub sum_is : r.tick ≡ sum intervals
    pub are_told : AreToldAsked witness r.system r.profile intervals told r.until
