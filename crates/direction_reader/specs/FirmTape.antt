-- What a reading that needs a witness for each word says of the tape, beside one that needs none.
use Rattle.std.specs.Prelude.{◌≡◌, ◌⊎◌, ℕ, ◌+◌, ◌≤◌, All, List, [], ◌∷◌, length, take, sum, map, Bool, true}
use Rattle.biphase.specs.declared.cell.Cell.{Cell}
use Rattle.biphase.specs.declared.profile.Profile.{Profile}
use Rattle.cell_tracker.specs.ChainPiece.{IsPiece, cells_from}
use Rattle.cell_tracker.specs.Lock.{IsLock, HasNoLock}
use Rattle.cell_tracker.specs.Stretch.{Stretch, AreStretchesFrom}
use Rattle.tc_address.specs.declared.direction.Direction.{Direction}
use Rattle.tc_address.specs.declared.system.System.{System}
use Rattle.direction_reader.specs.declared.event.Event.{Event}
use Rattle.direction_reader.specs.declared.event.Event.TheVariants.{Word}
use Rattle.direction_reader.specs.declared.firm_event.FirmEvent.{FirmEvent}
use Rattle.direction_reader.specs.declared.firm_event.FirmEvent.TheVariants.{Told}
use Rattle.direction_reader.specs.Firm.{is_firm, judged, firm_events_of_cells}
use Rattle.direction_reader.specs.Gathered.{begin_of}
use Rattle.direction_reader.specs.ListEvents.{duration, events_of_cells}
use Rattle.direction_reader.specs.Played.{Played}

-- words that are all played in one direction
abbrev pub AreOneWay : Direction → List Played → Type 0
AreOneWay direction [] = Unit {0}
AreOneWay direction (p ∷ more) = (p.direction ≡ direction) × AreOneWay direction more

-- what is told of an event, with a witness or without
abbrev pub IsJudged : Event → FirmEvent → Type 0
IsJudged event told = (firm : Bool) × (told ≡ judged firm event)

-- cells that begin at tick 0 have one event, and it is told as it is read without a witness
abbrev pub IsTold : System → List Cell → Type 0
IsTold system cells = (length (events_of_cells system 0 cells) ≡ 1)
    × (firm_events_of_cells system 0 cells ≡ map (λ event. Told event) (events_of_cells system 0 cells))

-- a word that is told is that of a window of these cells, and stands there beside another word's sync word, or at the
-- edge
abbrev pub HasWitness : ℕ → List Cell → FirmEvent → Type 0
HasWitness tick cells (Told (Word direction word end length_of_word)) = (k : ℕ) × (k + 80 ≤ length cells)
    × (end ≡ tick + duration (take (k + 80) cells)) × (is_firm direction cells k ≡ true)
HasWitness tick cells event = Unit {0}

-- it is a word of one of these stretches, and stands there so
abbrev pub HasWitnessIn : List ℕ → List Stretch → FirmEvent → Type 0
HasWitnessIn intervals [] event = ⊥
HasWitnessIn intervals (stretch ∷ more) event =
    HasWitness (begin_of intervals stretch) stretch.cells event ⊎ HasWitnessIn intervals more event

-- each word that is told of a list of intervals stands beside another word's sync word in its stretch, or at the edge
pub record AreWitnessed (system : System) (profile : Profile) (intervals : List ℕ) (events : List FirmEvent)
    : Type 0 where
  pub stretches : List Stretch
  pub are : AreStretchesFrom profile intervals 0 stretches
  pub each : All (HasWitnessIn intervals stretches) events

-- the events tell the tape, as `TellsTheTape` says without witnesses: whatever cells within the tolerance the recording
-- is a piece of, they are those of the tape's own windows from the first unequal pair on
pub record FirmTellsTheTape (system : System) (profile : Profile) (intervals : List ℕ) (events : List FirmEvent)
    : Type 0 where
  pub nothing : HasNoLock profile intervals 0 → events ≡ []
  pub words : (tape : List Cell) (cut lock : ℕ) → IsPiece profile intervals tape cut → IsLock profile intervals 0 lock
      → events ≡ firm_events_of_cells system (sum (take lock intervals)) (cells_from tape cut intervals lock)
