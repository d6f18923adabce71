-- What an interval does where the next word may stand in for a witness, in numbers, and which lists such a reader stands
-- for.
use Rattle.std.specs.Prelude.{◌≡◌, ℕ, ◌*◌, ◌≤◌, Bool, true, false, List, ◌++◌, Option, Some, None, IfSome}
use Rattle.direction_reader.specs.declared.consecutive_event.ConsecutiveEvents.{ConsecutiveEvents}
use Rattle.direction_reader.specs.declared.event.Event.TheVariants.{Word, Refused, Lost}
use Rattle.direction_reader.specs.declared.firm_event.FirmEvent.{FirmEvent}
use Rattle.direction_reader.specs.declared.firm_event.FirmEvent.TheVariants.{Told, Alone}
use Rattle.direction_reader.specs.declared.firm_event.FirmEvents.{FirmEvents}
use Rattle.direction_reader.specs.Brings.{greatest_cell}
use Rattle.direction_reader.specs.Consecutive.{between, consecutive, last_of, or_other}
use Rattle.direction_reader.specs.ConsecutiveTold.{held_of, until_held}
use Rattle.direction_reader.specs.FirmReader.{FirmState, FirmStandsFor, IsToldBy, told_until}
use Rattle.direction_reader.specs.FirmStep.{firm_list, firm_listed, IsNoWord}

-- a reader that needs witnesses, and the latest event that it has told
pub record ConsecutiveState : Type 0 where
  pub reader : FirmState
  pub latest : Option FirmEvent

-- what one interval brought, as a list in order
abbrev pub consecutive_list : ConsecutiveEvents → List FirmEvent
consecutive_list events = firm_listed events.held ++ firm_list events.events

-- the event that is held back from an event, where more may follow
abbrev pub kept : Bool → Option FirmEvent → Option FirmEvent
kept false event = None
kept true event = held_of event

-- what is left of an event of which another is held back
abbrev pub without : Option FirmEvent → FirmEvent → Option FirmEvent
without None event = Some event
without (Some held) event = None

-- what is given of an event between its neighbours: where none stands behind it and more may follow, it may be held
abbrev pub given : Bool → Option FirmEvent → Option FirmEvent → Option FirmEvent → Option FirmEvent
given more before None behind = None
given more before (Some event) (Some behind) = Some (between before event (Some behind))
given more before (Some event) None = without (kept more (Some event)) (between before event None)

-- what is given of the latest event, if it is held, and of those that come behind it
abbrev pub given_of : Bool → Option FirmEvent → FirmEvents → ConsecutiveEvents
given_of more latest told = record {
  held = given more None (held_of latest) (or_other told.first (or_other told.second told.third));
  events = record {
    first = given more latest told.first (or_other told.second told.third);
    second = given more (or_other told.first latest) told.second told.third;
    third = given more (or_other told.second (or_other told.first latest)) told.third None;
  };
}

-- the latest event, if these come behind it
abbrev pub latest_of : Option FirmEvent → FirmEvents → Option FirmEvent
latest_of latest told = or_other told.third (or_other told.second (or_other told.first latest))

-- the latest event is told by this tick, a word with the length of 80 cells
abbrev pub IsKeptBy : ℕ → FirmEvent → Type 0
IsKeptBy until (Told (Word direction word tick length)) =
    (tick ≤ until) × (80 ≤ length) × (length ≤ 80 * greatest_cell)
IsKeptBy until (Told (Refused direction fault tick)) = Unit {0}
IsKeptBy until (Told (Lost interval tick)) = Unit {0}
IsKeptBy until (Alone direction word tick length) = (tick ≤ until) × (80 ≤ length) × (length ≤ 80 * greatest_cell)

-- up to which tick all is told
abbrev pub consecutive_until : ConsecutiveState → ℕ
consecutive_until r = until_held (told_until r.reader) (held_of r.latest)

-- a word is told
abbrev pub is_told_word : FirmEvent → Bool
is_told_word (Told (Word direction word tick length)) = true
is_told_word (Told (Refused direction fault tick)) = false
is_told_word (Told (Lost interval tick)) = false
is_told_word (Alone direction word tick length) = false

-- what the latest of this many intervals brings, at most two words: where one was held and is told, the word that joins
-- it is played forward, and has not waited
pub record ConsecutiveBrings (intervals sum : ℕ) (events : ConsecutiveEvents) : Type 0 where
  pub held : IfSome events.held (IsToldBy intervals sum)
  pub first : IfSome events.events.first (IsToldBy intervals sum)
  pub second : IfSome events.events.second (IsToldBy intervals sum)
  pub third : IfSome events.events.third (IsToldBy intervals sum)
  pub one : IfSome events.held (λ event. is_told_word event ≡ true → events.events.first ≡ None)
  pub no_word : IfSome events.events.third IsNoWord

-- the reader was fed these intervals, and has told these events of them
pub record ConsecutiveStandsFor (r : ConsecutiveState) (intervals : List ℕ) (told : List FirmEvent) : Type 0 where
  pub firm : List FirmEvent
  pub reader : FirmStandsFor r.reader intervals firm
  pub latest : r.latest ≡ last_of firm
  pub all : consecutive firm ≡ told ++ firm_listed (held_of (last_of firm))
