-- The readers in numbers, and what an interval brings to each.
use Rattle.std.specs.Prelude.{◌≡◌, ℕ, ◌≤◌, List, length, map, None}
use Rattle.std.specs.Option.{option_map}
use Rattle.direction_reader.specs.declared.brought.Brought.{Brought}
use Rattle.direction_reader.specs.declared.consecutive_event.ConsecutiveEvents.{ConsecutiveEvents}
use Rattle.direction_reader.specs.declared.event.Event.{Event}
use Rattle.direction_reader.specs.declared.event.Events.{Events}
use Rattle.direction_reader.specs.declared.firm_event.FirmEvent.{FirmEvent}
use Rattle.direction_reader.specs.declared.firm_event.FirmEvent.TheVariants.{Told}
use Rattle.direction_reader.specs.declared.firm_event.FirmEvents.{FirmEvents}
use Rattle.direction_reader.specs.ConsecutiveStep.{consecutive_list, consecutive_until, ConsecutiveBrings}
use Rattle.direction_reader.specs.ConsecutiveStep.{ConsecutiveStandsFor, ConsecutiveState}
use Rattle.direction_reader.specs.CountedStep.{counted_until, CountedStandsFor, CountedState}
use Rattle.direction_reader.specs.Events.{event_list}
use Rattle.direction_reader.specs.Firm.{told_tick, DoNotFall}
use Rattle.direction_reader.specs.FirmReader.{FirmBrings, FirmStandsFor, FirmState, told_until}
use Rattle.direction_reader.specs.FirmStep.{firm_list}
use Rattle.direction_reader.specs.Reader.{ReaderState}
use Rattle.direction_reader.specs.Reading.{as_told, ReadingState}
use Rattle.direction_reader.specs.StandsFor.{MayTell, StandsFor, Tells}
use Rattle.direction_reader.specs.Tracker.{profile_of}

-- events of which none was held
abbrev pub none_held : FirmEvents → ConsecutiveEvents
none_held events = record { held = None; events = events }

-- events of a reader of all words
abbrev pub all_told : Events → ConsecutiveEvents
all_told events = none_held (record {
  first = option_map (λ (event : Event). Told event) events.first;
  second = option_map (λ (event : Event). Told event) events.second;
  third = None;
})

-- a reader of all words: nothing waits
abbrev pub reading_of_all : ReaderState → ReadingState
reading_of_all r = record {
  system = r.system;
  profile = profile_of r.tracker;
  count = r.intervals;
  tick = r.tick;
  until = r.tick;
  stands = λ intervals told. (events : List Event) × (told ≡ as_told events) × StandsFor r intervals events;
}

-- what an interval brought to it are these events
abbrev pub tells_all : ReaderState → Brought → List FirmEvent → Type 0
tells_all r brought own = (events : Events) × Tells r brought events × (own ≡ as_told (event_list events))

-- this may be brought, of the tick or an earlier one on
pub record MayTellFrom (r : ReaderState) (brought : Brought) (from : ℕ) : Type 0 where
  pub may : MayTell r brought
  pub taken : 1 ≤ r.intervals
  pub before : from ≤ r.tick

-- a reader that asks each word for a witness
abbrev pub reading_of_firm : FirmState → ReadingState
reading_of_firm r = record {
  system = r.reader.system;
  profile = profile_of r.reader.tracker;
  count = r.reader.intervals;
  tick = r.reader.tick;
  until = told_until r;
  stands = λ intervals told. FirmStandsFor r intervals told;
}

-- this may be told, in turn from a tick on
pub record MayTellFirmFrom (r : FirmState) (told : FirmEvents) (from : ℕ) : Type 0 where
  pub brings : FirmBrings r.reader.intervals r.reader.tick told
  pub in_turn : DoNotFall from (map told_tick (firm_list told)) (told_until r)

-- a reader of consecutive words
abbrev pub reading_of_consecutive : ConsecutiveState → ReadingState
reading_of_consecutive r = record {
  system = r.reader.reader.system;
  profile = profile_of r.reader.reader.tracker;
  count = r.reader.reader.intervals;
  tick = r.reader.reader.tick;
  until = consecutive_until r;
  stands = λ intervals told. ConsecutiveStandsFor r intervals told;
}

-- this may be told, in turn from a tick on
pub record MayTellConsecutiveFrom (r : ConsecutiveState) (told : ConsecutiveEvents) (from : ℕ) : Type 0 where
  pub brings : ConsecutiveBrings r.reader.reader.intervals r.reader.reader.tick told
  pub in_turn : DoNotFall from (map told_tick (consecutive_list told)) (consecutive_until r)

-- a reader of words that count
abbrev pub reading_of_counted : CountedState → ReadingState
reading_of_counted r = record {
  system = r.reader.system;
  profile = profile_of r.reader.tracker;
  count = r.reader.intervals;
  tick = r.reader.tick;
  until = counted_until r;
  stands = λ intervals told. CountedStandsFor r intervals told;
}

-- this may be told, in turn from a tick on
pub record MayTellCountedFrom (r : CountedState) (told : ConsecutiveEvents) (from : ℕ) : Type 0 where
  pub brings : ConsecutiveBrings r.reader.intervals r.reader.tick told
  pub few : length (consecutive_list told) ≤ 3
  pub in_turn : DoNotFall from (map told_tick (consecutive_list told)) (counted_until r)
