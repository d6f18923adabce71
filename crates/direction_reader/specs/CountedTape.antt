-- What a reading in which a word counts only with one that counts on says of the tape, beside one that needs nothing.
use Rattle.std.specs.Prelude.{◌≡◌, ℕ, ◌⊎◌, true, List, [], ◌∷◌, Option, Some, sum, take}
use Rattle.biphase.specs.declared.cell.Cell.{Cell}
use Rattle.biphase.specs.declared.profile.Profile.{Profile}
use Rattle.cell_tracker.specs.ChainPiece.{IsPiece, cells_from}
use Rattle.cell_tracker.specs.Lock.{IsLock, HasNoLock}
use Rattle.flywheel.specs.declared.heard.HeardWord.{HeardWord}
use Rattle.tc_address.specs.declared.system.System.{System}
use Rattle.direction_reader.specs.declared.event.Event.{Event}
use Rattle.direction_reader.specs.declared.event.Event.TheVariants.{Word, Refused, Lost}
use Rattle.direction_reader.specs.declared.firm_event.FirmEvent.{FirmEvent}
use Rattle.direction_reader.specs.declared.firm_event.FirmEvent.TheVariants.{Told, Alone}
use Rattle.direction_reader.specs.Consecutive.{first_of, heard_as, word_at, word_of}
use Rattle.direction_reader.specs.Counted.{counted, counts_on, heard_of, later_word}
use Rattle.direction_reader.specs.ListEvents.{events_of_cells}

-- a word that is told, between the latest word before it and the event that comes next: it counts on from the one, or
-- the other from it
abbrev pub IsCounted : Option HeardWord → FirmEvent → Option FirmEvent → Type 0
IsCounted before (Told (Word direction word tick length)) next =
    (counts_on before (Some (heard_as direction word tick length)) ≡ true)
    ⊎ (counts_on (Some (heard_as direction word tick length)) (word_at next) ≡ true)
IsCounted before (Told (Refused direction fault tick)) next = Unit {0}
IsCounted before (Told (Lost interval tick)) next = Unit {0}
IsCounted before (Alone direction word tick length) next = Unit {0}

-- and so is each word that is told of these events, behind a word that may be there
abbrev pub EachIsCounted : Option HeardWord → List FirmEvent → Type 0
EachIsCounted before [] = Unit {0}
EachIsCounted before (event ∷ more) =
    IsCounted before event (first_of more) × EachIsCounted (later_word before (word_of event)) more

-- each of these events, behind a word that may be there, is a word that counts on from the one before it
abbrev pub EachCountsOn : Option HeardWord → List Event → Type 0
EachCountsOn before [] = Unit {0}
EachCountsOn before (event ∷ more) = (counts_on before (heard_of event) ≡ true) × EachCountsOn (heard_of event) more

-- these events are two words or more, of which each counts on from the one before it
abbrev pub AllCountOn : List Event → Type 0
AllCountOn [] = ⊥
AllCountOn (event ∷ []) = ⊥
AllCountOn (first ∷ second ∷ more) = EachCountsOn (heard_of first) (second ∷ more)

-- the events tell the tape: whatever cells within the tolerance the recording is a piece of, they are what becomes of
-- those of the tape's own windows from the first unequal pair on
pub record CountedTellsTheTape (system : System) (profile : Profile) (intervals : List ℕ) (events : List FirmEvent)
    : Type 0 where
  pub nothing : HasNoLock profile intervals 0 → events ≡ []
  pub words : (tape : List Cell) (cut lock : ℕ) → IsPiece profile intervals tape cut → IsLock profile intervals 0 lock
      → events ≡ counted (events_of_cells system (sum (take lock intervals)) (cells_from tape cut intervals lock))
