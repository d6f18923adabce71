-- The truth of a reading: what the events of a recording within the tolerance say of the tape.
use Rattle.std.specs.Prelude.{◌≡◌, ℕ, ◌+◌, ◌<◌, ◌≤◌, List, [], ◌++◌, length, take, sum, count_by, All}
use Rattle.biphase.specs.declared.cell.Cell.{Cell}
use Rattle.biphase.specs.declared.profile.Profile.{Profile}
use Rattle.biphase.specs.declared.profile.Profile.TheVariants.{Rough}
use Rattle.biphase.specs.Tolerance.{LooksAtLast}
use Rattle.cell_tracker.specs.EvenRun.{IsEvenRun}
use Rattle.cell_tracker.specs.FoundAgain.{IsSecondLock}
use Rattle.cell_tracker.specs.ChainPiece.{IsPiece, cells_from}
use Rattle.cell_tracker.specs.Lock.{IsLock, HasNoLock}
use Rattle.tc_address.specs.declared.system.System.{System}
use Rattle.direction_reader.specs.declared.event.Event.{Event}
use Rattle.direction_reader.specs.declared.event.Event.TheVariants.{Lost}
use Rattle.direction_reader.specs.Events.{is_lost, tick_of}
use Rattle.direction_reader.specs.ListEvents.{duration, events_of_cells}

-- the events tell the tape. Where no two neighbours are unequal there are none. Else, whatever cells within the
-- tolerance the recording is a piece of, cut out at the place `cut`, the events are those of all whole words of these
-- cells, good or refused: of each 80 neighbours that lie wholly in the recording from the first unequal pair on. And no
-- event of a recording within the tolerance is a break
pub record TellsTheTape (system : System) (profile : Profile) (intervals : List ℕ) (events : List Event) : Type 0 where
  pub nothing : HasNoLock profile intervals 0 → events ≡ []
  pub words : (tape : List Cell) (cut lock : ℕ) → IsPiece profile intervals tape cut → IsLock profile intervals 0 lock
      → events ≡ events_of_cells system (sum (take lock intervals)) (cells_from tape cut intervals lock)
  pub no_break : (tape : List Cell) (cut : ℕ) → IsPiece profile intervals tape cut → count_by is_lost events ≡ 0

-- a word, good or refused, ends at the tick `end` at the latest, and a break stands at the place `from` at the latest
abbrev pub ComesBy : ℕ → ℕ → Event → Type 0
ComesBy end from (Lost interval tick) = interval ≤ from
ComesBy end from event = tick_of event ≤ end

-- behind the intervals `front`: a word, good or refused, ends after them, and a break stands behind the last of them
abbrev pub ComesBehind : List ℕ → Event → Type 0
ComesBehind front (Lost interval tick) = length front ≤ interval
ComesBehind front event = sum front < tick_of event

-- in the intervals `front` and what comes behind them, the events are from the place `from` to the end of `front` those
-- of the windows of these cells and nothing else. Before them come words that began before this place, so that they end
-- with its 79th cell at the latest, and breaks at this place at the latest; and behind them what comes behind `front`
pub record TellFrom (system : System) (front : List ℕ) (from : ℕ) (cells : List Cell) (events : List Event)
    : Type 0 where
  pub past : List Event
  pub behind : List Event
  pub are : events ≡ past ++ events_of_cells system (sum (take from front)) cells ++ behind
  pub no_others : All (ComesBy (sum (take from front) + duration (take 79 cells)) from) past
  pub none_before_the_end : All (ComesBehind front) behind

-- where a cell is compared with the one before it alone, the events find the tape again, whatever stands before it and
-- whatever comes behind: where a part of the recording is a piece of the tape, they are from the greater interval of
-- the piece's second unequal pair to the end of the piece those of the tape's windows, and nothing else
abbrev pub FindsTheTape : System → Profile → List ℕ → List Event → Type 0
FindsTheTape system profile intervals events = LooksAtLast profile
    → (before kept behind : List ℕ) (tape : List Cell) (cut second : ℕ) → intervals ≡ before ++ kept ++ behind
    → IsPiece profile kept tape cut → IsSecondLock profile kept second
    → TellFrom system (before ++ kept) (length before + second) (cells_from tape cut kept second) events

-- under the rough tolerance the events find the tape again behind even ones, as a sync word has them, whatever stands
-- before them and whatever comes behind: from the greater interval of the next unequal pair behind the zero that ends
-- them to the end of the piece they are those of the tape's windows, and nothing else
abbrev pub FindsTheTapeBehindOnes : System → Profile → List ℕ → List Event → Type 0
FindsTheTapeBehindOnes system Rough intervals events =
    (before kept behind : List ℕ) (tape : List Cell) (cut end second : ℕ) → intervals ≡ before ++ kept ++ behind
    → IsPiece Rough kept tape cut → IsEvenRun kept tape cut end → IsLock Rough kept end second
    → TellFrom system (before ++ kept) (length before + second) (cells_from tape cut kept second) events
FindsTheTapeBehindOnes system profile intervals events = Unit {0}
