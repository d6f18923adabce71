-- What a reader of a tape keeps, and which intervals it stands for, with what it has told of them.
use Rattle.std.specs.Prelude.{◌≡◌, ℕ, ◌-◌, ◌≤◌, nat_le, ◌&&◌, not, Bool, false, List, [], ◌∷◌, ◌++◌, take}
use Rattle.direction_reader.specs.declared.consecutive_event.ConsecutiveEvents.{ConsecutiveEvents}
use Rattle.direction_reader.specs.declared.firm_event.FirmEvent.{FirmEvent}
use Rattle.direction_reader.specs.declared.witness.Witness.{Witness}
use Rattle.direction_reader.specs.declared.witness.Witness.TheVariants.{NotAsked, Asked, Consecutive, Counted}
use Rattle.direction_reader.specs.FirmStep.{nothing_told}
use Rattle.direction_reader.specs.KeptReading.{none_held, reading_of_all, reading_of_consecutive, reading_of_counted}
use Rattle.direction_reader.specs.KeptReading.{reading_of_firm}
use Rattle.direction_reader.specs.Reading.{AreEventsAsked, AreToldAsked, ReadingState}
use Rattle.limits.specs.declared.recording.TheConstants.{MAX_INTERVAL, MAX_INTERVALS}
use Rattle.tape_reader.specs.declared.reader.TapeReader.{TapeReader}
use Rattle.tape_reader.specs.declared.reader.TapeReader.TheVariants.{Plain, Firm, Joined, Counting}
use Rattle.tape_reader.specs.declared.settings.TapeSettings.{TapeSettings}

-- its reader in numbers
abbrev pub reading_of : TapeReader → ReadingState
reading_of (Plain r) = reading_of_all r
reading_of (Firm r) = reading_of_firm r
reading_of (Joined r) = reading_of_consecutive r
reading_of (Counting r) = reading_of_counted r

-- what it asks each word for
abbrev pub witness_of : TapeReader → Witness
witness_of (Plain r) = NotAsked
witness_of (Firm r) = Asked
witness_of (Joined r) = Consecutive
witness_of (Counting r) = Counted

-- how it reads
abbrev pub settings_of : TapeReader → TapeSettings
settings_of tape = record {
  system = (reading_of tape).system;
  profile = (reading_of tape).profile;
  witness = witness_of tape;
}

-- it takes no more intervals
abbrev pub is_full : TapeReader → Bool
is_full tape = nat_le MAX_INTERVALS (reading_of tape).count

-- a number of ticks is an interval of a recording
abbrev pub is_interval : ℕ → Bool
is_interval x = nat_le 1 x && nat_le x MAX_INTERVAL

-- the first of some numbers is no interval
abbrev pub begins_with_none : List ℕ → Bool
begins_with_none [] = false
begins_with_none (x ∷ more) = not (is_interval x)

-- an interval brought no event
abbrev pub nothing_brought : ConsecutiveEvents
nothing_brought = none_held nothing_told

-- it was given these intervals, and has told these events of them
abbrev pub StandsFor : TapeReader → List ℕ → List FirmEvent → Type 0
StandsFor tape intervals told = (reading_of tape).stands intervals told

-- from one state to a later one: it was given these intervals more, and told these events more
abbrev pub Brings : TapeReader → TapeReader → List ℕ → List FirmEvent → Type 0
Brings old new intervals own = (front : List ℕ) (told : List FirmEvent) → StandsFor old front told
    → StandsFor new (front ++ intervals) (told ++ own)

-- of these first intervals none but the latest brought an event
abbrev pub NoneButTheLatestTells : TapeReader → ℕ → List ℕ → Type 0
NoneButTheLatestTells old count intervals =
    (before : TapeReader) × (1 ≤ count) × (settings_of before ≡ settings_of old)
    × Brings old before (take (count - 1) intervals) []

-- the events of a list of intervals, under these settings
abbrev pub AreTapeEvents : TapeSettings → List ℕ → List FirmEvent → Type 0
AreTapeEvents s intervals told = AreEventsAsked s.witness s.system s.profile intervals told

-- up to which tick all is told
abbrev pub told_until : TapeReader → ℕ
told_until tape = (reading_of tape).until

-- what is told so far, and up to which tick, under these settings
abbrev pub AreTapeTold : TapeSettings → List ℕ → List FirmEvent → ℕ → Type 0
AreTapeTold s intervals told until = AreToldAsked s.witness s.system s.profile intervals told until
