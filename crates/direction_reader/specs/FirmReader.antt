-- Which lists of intervals a reader that needs a witness for each word stands for, and what it has given of them. What
-- it has given and what `finish` gives are together the events of the list.
use Rattle.std.specs.Prelude.{◌≡◌, ℕ, ◌+◌, ◌*◌, ◌≤◌, List, [], ◌++◌, Option, Some, None, IfSome}
use Rattle.biphase.specs.Chain.{bits}
use Rattle.cell_tracker.specs.Stretch.{Stretch}
use Rattle.limits.specs.declared.recording.TheConstants.{MAX_INTERVAL}
use Rattle.direction_reader.specs.declared.event.Event.{Event}
use Rattle.direction_reader.specs.declared.event.Event.TheVariants.{Word, Refused, Lost}
use Rattle.direction_reader.specs.declared.firm_event.FirmEvent.{FirmEvent}
use Rattle.direction_reader.specs.declared.firm_event.FirmEvent.TheVariants.{Told, Alone}
use Rattle.direction_reader.specs.declared.firm_event.FirmEvents.{FirmEvents}
use Rattle.direction_reader.specs.declared.waiting.Waiting.{Waiting}
use Rattle.direction_reader.specs.Beside.{BesideBits, none_beside}
use Rattle.direction_reader.specs.Brings.{greatest_cell}
use Rattle.direction_reader.specs.FirmKnown.{all_sure, known_of}
use Rattle.direction_reader.specs.FirmStandsFor.{beside_of, WaitsFor}
use Rattle.direction_reader.specs.FirmStep.{IsNoWord, IsToldBackward, WaitsWithin, until_of}
use Rattle.direction_reader.specs.Gathered.{begin_of}
use Rattle.direction_reader.specs.Reader.{ReaderState}
use Rattle.direction_reader.specs.StandsFor.{StandsFor}

-- a reader of all words, the latest 96 bits of the stretch that is open, and the word that waits for its witness
pub record FirmState : Type 0 where
  pub reader : ReaderState
  pub beside : BesideBits
  pub waits : Option Waiting

-- what is kept fits what is counted
pub record IsFirmReading (r : FirmState) : Type 0 where
  pub most : r.reader.tick ≤ r.reader.intervals * MAX_INTERVAL
  pub young : IfSome r.waits (λ w. w.age ≤ 15)
  pub waits : WaitsWithin r.reader.tick r.waits

-- an event told with the latest of this many intervals, whose sum is a tick: a word may have waited, a break not
abbrev pub IsToldBy : ℕ → ℕ → FirmEvent → Type 0
IsToldBy intervals sum (Told (Word direction word tick length)) =
    (tick ≤ sum) × (80 ≤ length) × (length ≤ 80 * greatest_cell)
IsToldBy intervals sum (Told (Refused direction fault tick)) = tick ≤ sum
IsToldBy intervals sum (Told (Lost interval tick)) = (interval + 1 ≡ intervals) × (tick ≡ sum)
IsToldBy intervals sum (Alone direction word tick length) =
    (tick ≤ sum) × (80 ≤ length) × (length ≤ 80 * greatest_cell)

-- up to which tick all is told: the sum of the intervals, or the tick of a word that waits for its witness
abbrev pub told_until : FirmState → ℕ
told_until r = until_of r.reader.tick r.waits

-- what the latest of this many intervals brings, at most two words: the first has waited, and is played backward
pub record FirmBrings (intervals sum : ℕ) (events : FirmEvents) : Type 0 where
  pub first : IfSome events.first (IsToldBy intervals sum)
  pub second : IfSome events.second (IsToldBy intervals sum)
  pub third : IfSome events.third (IsToldBy intervals sum)
  pub played : IfSome events.first IsToldBackward
  pub no_word : IfSome events.third IsNoWord

-- of the stretch that is open these are the latest bits, and this is told of it
pub record FirmOpen (r : FirmState) (intervals : List ℕ) (stretch : Stretch) (told : List FirmEvent) : Type 0 where
  pub beside : r.beside ≡ beside_of none_beside (bits stretch.cells)
  pub waits : WaitsFor r.waits r.reader.system (begin_of intervals stretch) stretch.cells told

-- where no stretch is open there is nothing
abbrev pub FirmLatest : FirmState → List ℕ → Option Stretch → List FirmEvent → Type 0
FirmLatest r intervals None told = (r.beside ≡ none_beside) × (r.waits ≡ None) × (told ≡ [])
FirmLatest r intervals (Some stretch) told = FirmOpen r intervals stretch told

-- the reader of all words was fed these intervals, and what is known of its stretches was told: of those that are
-- broken all, and of the open one what does not wait
pub record FirmStandsFor (r : FirmState) (intervals : List ℕ) (told : List FirmEvent) : Type 0 where
  pub events : List Event
  pub reader : StandsFor r.reader intervals events
  pub past : List FirmEvent
  pub latest : List FirmEvent
  pub past_are : known_of r.reader.system intervals reader.earlier ≡ all_sure past
  pub latest_are : FirmLatest r intervals reader.open_yet latest
  pub all : told ≡ past ++ latest
