-- What a reader of sound keeps, and which samples it stands for, with which events.
use Rattle.std.specs.Prelude.{◌≡◌, ℕ, ℤ, ◌-◌, ◌*◌, ◌≤◌, nat_le, ◌||◌, Bool, List, [], ◌∷◌, ◌++◌, replicate, take, All}
use Rattle.direction_reader.specs.declared.brought.Brought.{Brought}
use Rattle.direction_reader.specs.declared.event.Event.{Event}
use Rattle.direction_reader.specs.declared.event.Events.{Events}
use Rattle.direction_reader.specs.Events.{event_list, tick_of}
use Rattle.direction_reader.specs.ListEvents.{AreEvents}
use Rattle.direction_reader.specs.Reader.{ReaderState, Takes}
use Rattle.direction_reader.specs.StandsFor as reader
use Rattle.direction_reader.specs.Tracker.{profile_of}
use Rattle.limits.specs.declared.recording.TheConstants.{MAX_INTERVALS}
use Rattle.pcm_front.specs.declared.interval.Intervals.{Intervals}
use Rattle.pcm_front.specs.declared.slicer.Slicer.{Slicer}
use Rattle.pcm_front.specs.Pace.{intervals_at, intervals_in, longest}
use Rattle.pcm_front.specs.StandsFor as slicer
use Rattle.sound_reader.specs.declared.reader.TheConstants.{MAX_SAMPLES}
use Rattle.sound_reader.specs.declared.settings.SoundSettings.{SoundSettings}
use Rattle.sound_reader.specs.Settings.{slicing, AreInRange}
use Rattle.sound_reader.specs.Waiting.{AreIntervals}

-- what is kept: how it reads, a slicer and a reader of intervals, how many samples were taken, and the intervals that
-- are found and not read yet
pub record SoundState : Type 0 where
  pub settings : SoundSettings
  pub slicer : Slicer
  pub reader : ReaderState
  pub samples : ℕ
  pub waiting : Intervals

-- the numbers fit each other, and what waits are intervals
pub record IsKept (s : SoundState) : Type 0 where
  pub range : AreInRange s.settings
  pub slices : slicer.settings_of s.slicer ≡ slicing s.settings
  pub tick : slicer.tick_of s.slicer ≡ s.settings.fineness * s.samples
  pub few : s.samples ≤ MAX_SAMPLES
  pub waiting : AreIntervals s.waiting

-- it was given these samples, and has given these events: those of the intervals of the samples, but for the intervals
-- that wait
pub record StandsFor (s : SoundState) (samples : List ℤ) (events : List Event) : Type 0 where
  pub system : s.reader.system ≡ s.settings.system
  pub profile : profile_of s.reader.tracker ≡ s.settings.profile
  pub slices : slicer.settings_of s.slicer ≡ slicing s.settings
  pub intervals : List ℕ
  pub sliced : slicer.StandsFor s.slicer samples
  pub read : reader.StandsFor s.reader intervals events
  pub all : intervals ++ intervals_in s.waiting ≡ intervals_at s.settings.pace (slicing s.settings) samples

-- no interval waits
abbrev pub IsSettled : SoundState → Type 0
IsSettled s = intervals_in s.waiting ≡ []

-- it takes no more intervals, or no more samples
abbrev pub is_full : SoundState → Bool
is_full s = nat_le MAX_INTERVALS s.reader.intervals || nat_le MAX_SAMPLES s.samples

-- from one state to a later one: it was given these samples more, and gave these events more
abbrev pub Brings : SoundState → SoundState → List ℤ → List Event → Type 0
Brings old new samples own = (front : List ℤ) (given : List Event) → StandsFor old front given
    → StandsFor new (front ++ samples) (given ++ own)

-- a reader of intervals took an interval, which brought these events
pub record Reads (old new : ReaderState) (x : ℕ) (own : List Event) : Type 0 where
  pub takes : Takes old x new
  pub stands : (intervals : List ℕ) (events : List Event) → reader.StandsFor old intervals events
      → reader.StandsFor new (intervals ++ x ∷ []) (events ++ own)

-- samples were taken, and the one interval that they brought was read, which may have brought an event
pub record Found (old new : SoundState) (samples : List ℤ) (brought : Brought) : Type 0 where
  pub settled : IsSettled new
  pub may : reader.MayTell new.reader brought
  pub some : 1 ≤ new.reader.intervals
  pub brings : (own : Events) → reader.Tells new.reader brought own → Brings old new samples (event_list own)

-- the intervals of samples, under these settings
abbrev pub intervals_of : SoundSettings → List ℤ → List ℕ
intervals_of s samples = intervals_at s.pace (slicing s) samples

-- of these next samples those before the latest bring no interval, but for whole pieces of a distance that passes
abbrev pub OnlyPass : SoundState → ℕ → List ℤ → Type 0
OnlyPass s count next = (front : List ℤ) (given : List Event) → StandsFor s front given → (more : ℕ)
    × (intervals_of s.settings (front ++ take (count - 1) next)
    ≡ intervals_of s.settings front ++ replicate more (longest s.settings.pace))

-- these are the events of the intervals of samples, but for whole pieces of a distance at their end
pub record AreEventsSoFar (s : SoundSettings) (samples : List ℤ) (told : List Event) : Type 0 where
  pub read : List ℕ
  pub more : ℕ
  pub all : intervals_of s samples ≡ read ++ replicate more (longest s.pace)
  pub events : AreEvents s.system s.profile read told

-- of these first samples none but the latest brought an event: those before it have the events that had been given,
-- but for whole pieces of a distance that passes
abbrev pub NoneButTheLatestTells : SoundState → ℕ → List ℤ → Type 0
NoneButTheLatestTells old count samples = (front : List ℤ) (given : List Event) → StandsFor old front given
    → 1 ≤ count → AreEventsSoFar old.settings (front ++ take (count - 1) samples) given

-- these events come first among others, of which all that follow end at a tick or later
pub record ComesFirst (told : List Event) (until : ℕ) (events : List Event) : Type 0 where
  pub rest : List Event
  pub are : events ≡ told ++ rest
  pub later : All (λ event. until ≤ tick_of event) rest

-- whatever samples follow those that the reader was given, what it has told comes first among the events of all of them,
-- and what is told later ends at a tick or later
abbrev pub AllElseIsLater : SoundState → ℕ → Type 0
AllElseIsLater s until = (samples more : List ℤ) (told events : List Event) → StandsFor s samples told
    → AreEvents s.settings.system s.settings.profile (intervals_of s.settings (samples ++ more)) events
    → ComesFirst told until events
