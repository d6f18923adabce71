-- Which lists of intervals a reader stands for, each list with its events. What it keeps of the cells is tied to the
-- list here.
use Rattle.std.specs.Prelude.{◌≡◌, ℕ, ◌+◌, ◌-◌, ◌*◌, ◌^◌, ◌≤◌, ◌<◌, List, [], ◌∷◌, ◌++◌, length, sum, Option, Some}
use Rattle.std.specs.Prelude.{None, IfSome, IsSome}
use Rattle.biphase.specs.declared.cell.Cell.{Cell}
use Rattle.biphase.specs.Tolerance.{length_of}
use Rattle.biphase.specs.Chain.{bit_of, bits}
use Rattle.cell_tracker.specs.Stretch.{Stretch, begun, with_cell, with_break}
use Rattle.cell_tracker.specs.StandsFor.{last_of, HuntingStandsFor, AtCellStandsFor, MidCellStandsFor}
use Rattle.direction_reader.specs.declared.brought.Brought.{Brought}
use Rattle.direction_reader.specs.declared.brought.Brought.TheVariants.{Candidate}
use Rattle.direction_reader.specs.declared.event.Event.{Event}
use Rattle.direction_reader.specs.declared.event.Event.TheVariants.{Lost}
use Rattle.direction_reader.specs.declared.event.Events.{Events}
use Rattle.direction_reader.specs.Events.{no_events, one_event}
use Rattle.direction_reader.specs.declared.latest_bits.LatestBits.{LatestBits}
use Rattle.direction_reader.specs.declared.latest_bits.LatestBits.TheVariants as newest
use Rattle.direction_reader.specs.Tracking.{Tracking}
use Rattle.direction_reader.specs.Tracking.{AtCell, MidCell, Hunting}
use Rattle.direction_reader.specs.declared.state.Step.{Step}
use Rattle.direction_reader.specs.declared.state.Step.TheVariants.{Nothing, FirstZero, ZeroBefore, Break}
use Rattle.direction_reader.specs.LatestCells.{Cells, AreWindowEvents}
use Rattle.direction_reader.specs.Gathered.{AreEventsOfWindows, AreEventsOfStretches}
use Rattle.direction_reader.specs.Gathered.{begin_of}
use Rattle.direction_reader.specs.Windows.{number_of, windows}
use Rattle.direction_reader.specs.ListEvents.{duration}
use Rattle.direction_reader.specs.Reader.{ReaderState}

-- the tracker stands for the intervals: of their stretches some are broken, and one may be open
abbrev pub TrackerStandsFor : Tracking → List ℕ → List Stretch → Option Stretch → Type 0
TrackerStandsFor (AtCell a) intervals earlier (Some stretch) = AtCellStandsFor a intervals earlier stretch
TrackerStandsFor (AtCell a) intervals earlier None = ⊥
TrackerStandsFor (MidCell m) intervals earlier (Some stretch) = MidCellStandsFor m intervals earlier stretch
TrackerStandsFor (MidCell m) intervals earlier None = ⊥
TrackerStandsFor (Hunting h) intervals earlier (Some stretch) = ⊥
TrackerStandsFor (Hunting h) intervals earlier None = HuntingStandsFor h intervals earlier

-- the ticks at the boundaries of cells that begin at a tick
abbrev pub ticks : ℕ → List Cell → List ℕ
ticks tick [] = tick ∷ []
ticks tick (cell ∷ cells) = tick ∷ ticks (tick + length_of cell) cells

-- the bits of the latest cells: those of a window, or of all cells where they are fewer
abbrev pub BitsStandFor : LatestBits → List Cell → List Cell → Type 0
BitsStandFor (newest.Full n) older cells = (length cells ≡ 80) × (n ≡ number_of (bits cells))
BitsStandFor (newest.Filling f) older cells = (older ≡ []) × (f.count ≡ length cells) × ((room : ℕ)
    × (length cells + room ≡ 79) × (f.bits ≡ number_of (bits cells) * 2 ^ (room + 1)))

-- what is kept of cells that begin at a tick: the latest of them, with their boundaries
pub record CellsStandFor (kept : Cells) (tick : ℕ) (cells : List Cell) : Type 0 where
  pub older : List Cell
  pub newest : List Cell
  pub are : cells ≡ older ++ newest
  pub bits_are : BitsStandFor kept.bits older newest
  pub boundaries_are : kept.boundaries ≡ ticks (tick + duration older) newest

-- a cell ended with the latest interval
abbrev pub IsAtCell : Tracking → Type 0
IsAtCell (AtCell a) = Unit {0}
IsAtCell (MidCell m) = ⊥
IsAtCell (Hunting h) = ⊥

-- the half that waits behind the last cell
abbrev pub waiting : Tracking → ℕ
waiting (AtCell a) = 0
waiting (MidCell m) = m.half
waiting (Hunting h) = 0

-- the last interval of the list is the first zero of the stretch that begins with it
abbrev pub IsLastZero : List ℕ → ℕ → Type 0
IsLastZero intervals first = last_of intervals ≡ Some first

-- the stretch that breaks is the open one, or one that begins with the last interval
abbrev pub MayBreak : List ℕ → Option Stretch → Stretch → Type 0
MayBreak intervals (Some open_yet) stretch = stretch ≡ open_yet
MayBreak intervals None stretch =
    (first : ℕ) × IsLastZero intervals first × (stretch ≡ begun (length intervals - 1) first)

-- what a step of the tracker means for the stretches of the intervals with x at their end
abbrev pub StandsAfter : Tracking → Tracking → ℕ → List ℕ → List Stretch → Option Stretch → Step → Type 0
StandsAfter old next x intervals earlier open_yet Nothing =
    TrackerStandsFor next (intervals ++ x ∷ []) earlier open_yet × (IsSome open_yet → waiting next ≡ waiting old + x)
StandsAfter old next x intervals earlier open_yet FirstZero = (open_yet ≡ None) × (waiting next ≡ 0)
    × TrackerStandsFor next (intervals ++ x ∷ []) earlier (Some (begun (length intervals) x))
StandsAfter old next x intervals earlier open_yet (ZeroBefore first) =
    (open_yet ≡ None) × IsLastZero intervals first × (waiting next ≡ x)
    × TrackerStandsFor next (intervals ++ x ∷ []) earlier (Some (begun (length intervals - 1) first))
StandsAfter old next x intervals earlier open_yet (Step.Cell bit) =
    (stretch : Stretch) × (cell : Cell) × (open_yet ≡ Some stretch)
    × (bit_of cell ≡ bit) × (length_of cell ≡ waiting old + x) × (waiting next ≡ 0)
    × TrackerStandsFor next (intervals ++ x ∷ []) earlier (Some (with_cell cell stretch))
StandsAfter old next x intervals earlier open_yet Break = (stretch : Stretch) × MayBreak intervals open_yet stretch
    × TrackerStandsFor next (intervals ++ x ∷ []) (earlier ++ with_break (length intervals) stretch ∷ []) None

-- the open stretch, the part of it that is kept, and the events of its windows
pub record OpenStandsFor (reader : ReaderState) (intervals : List ℕ) (stretch : Stretch) (events : List Event) :
    Type 0 where
  pub lock : stretch.lock ≤ length intervals
  pub kept : CellsStandFor reader.cells (begin_of intervals stretch) stretch.cells
  pub ends : reader.tick ≡ begin_of intervals stretch + duration stretch.cells + waiting reader.tracker
  pub events_are : AreEventsOfWindows reader.system (windows (begin_of intervals stretch) stretch.cells) events

-- where no stretch is open there is nothing
abbrev pub LatestStandsFor : ReaderState → List ℕ → Option Stretch → List Event → Type 0
LatestStandsFor reader intervals None events = events ≡ []
LatestStandsFor reader intervals (Some stretch) events = OpenStandsFor reader intervals stretch events

-- a stretch begins and breaks within this many intervals
pub record IsInside (count : ℕ) (stretch : Stretch) : Type 0 where
  pub lock : stretch.lock ≤ count
  pub broken : IfSome stretch.broken_at (λ place. place < count)

-- all of them
abbrev pub AreInside : ℕ → List Stretch → Type 0
AreInside count [] = Unit {0}
AreInside count (stretch ∷ more) = IsInside count stretch × AreInside count more

-- the reader was fed these intervals, and these are their events
pub record StandsFor (reader : ReaderState) (intervals : List ℕ) (events : List Event) : Type 0 where
  pub count : reader.intervals ≡ length intervals
  pub sum_is : reader.tick ≡ sum intervals
  pub earlier : List Stretch
  pub open_yet : Option Stretch
  pub tracker : TrackerStandsFor reader.tracker intervals earlier open_yet
  pub inside : AreInside (length intervals) earlier
  pub past : List Event
  pub latest : List Event
  pub past_are : AreEventsOfStretches reader.system intervals earlier past
  pub latest_are : LatestStandsFor reader intervals open_yet latest
  pub all : events ≡ past ++ latest

-- what the latest interval brought, where the reader told so of it
abbrev pub Tells : ReaderState → Brought → Events → Type 0
Tells reader Brought.Nothing events = events ≡ no_events
Tells reader Candidate events =
    AreWindowEvents reader.system reader.cells.bits reader.cells.boundaries reader.tick events
Tells reader Brought.Break events = events ≡ one_event (Lost (reader.intervals - 1) reader.tick)

-- a candidate is told only where a cell has just ended
abbrev pub MayTell : ReaderState → Brought → Type 0
MayTell reader Brought.Nothing = Unit {0}
MayTell reader Candidate = IsAtCell reader.tracker
MayTell reader Brought.Break = Unit {0}
