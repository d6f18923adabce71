-- What a reading in which the next word may stand in for a witness says of the tape, beside one that needs witnesses.
use Rattle.std.specs.Prelude.{◌≡◌, ℕ, ◌⊎◌, true, List, [], ◌∷◌, Option, Some, None, sum, take}
use Rattle.biphase.specs.declared.cell.Cell.{Cell}
use Rattle.biphase.specs.declared.profile.Profile.{Profile}
use Rattle.cell_tracker.specs.ChainPiece.{IsPiece, cells_from}
use Rattle.cell_tracker.specs.Lock.{IsLock, HasNoLock}
use Rattle.cell_tracker.specs.Stretch.{Stretch, AreStretchesFrom}
use Rattle.ltc_word.specs.declared.word.LtcWord.{LtcWord}
use Rattle.tc_address.specs.declared.direction.Direction.{Direction}
use Rattle.tc_address.specs.declared.direction.Direction.TheVariants.{Forward, Backward}
use Rattle.tc_address.specs.declared.system.System.{System}
use Rattle.direction_reader.specs.declared.event.Event.TheVariants.{Word, Refused, Lost}
use Rattle.direction_reader.specs.declared.firm_event.FirmEvent.{FirmEvent}
use Rattle.direction_reader.specs.declared.firm_event.FirmEvent.TheVariants.{Told, Alone}
use Rattle.direction_reader.specs.Consecutive.{consecutive, first_of, heard_as, joins, word_at}
use Rattle.direction_reader.specs.Firm.{firm_events_of_cells}
use Rattle.direction_reader.specs.FirmTape.{HasWitnessIn}

-- an event as it is with witnesses alone, or a word that was alone and is told
abbrev pub IsSameOrTold : FirmEvent → FirmEvent → Type 0
IsSameOrTold firm event = (event ≡ firm) ⊎ ((direction : Direction) × (word : LtcWord) × (tick : ℕ) × (length : ℕ)
    × (firm ≡ Alone direction word tick length) × (event ≡ Told (Word direction word tick length)))

-- a word that is told, between its neighbours: the one that follows it on the tape is beside it, and they join
abbrev pub IsJoined : Option FirmEvent → FirmEvent → Option FirmEvent → Type 0
IsJoined before (Told (Word Forward word tick length)) behind =
    joins (Some (heard_as Forward word tick length)) (word_at behind) ≡ true
IsJoined before (Told (Word Backward word tick length)) behind =
    joins (word_at before) (Some (heard_as Backward word tick length)) ≡ true
IsJoined before (Told (Refused direction fault tick)) behind = ⊥
IsJoined before (Told (Lost interval tick)) behind = ⊥
IsJoined before (Alone direction word tick length) behind = ⊥

-- each of these events, if it is a word that is told, has its witness in one of the stretches, or is joined by the word
-- that follows it on the tape; one event may stand before them
abbrev pub EachIsBacked : List ℕ → List Stretch → Option FirmEvent → List FirmEvent → Type 0
EachIsBacked intervals stretches before [] = Unit {0}
EachIsBacked intervals stretches before (event ∷ more) =
    (HasWitnessIn intervals stretches event ⊎ IsJoined before event (first_of more))
    × EachIsBacked intervals stretches (Some event) more

-- and so are the events of a list of intervals
pub record AreBacked (system : System) (profile : Profile) (intervals : List ℕ) (events : List FirmEvent) : Type 0 where
  pub stretches : List Stretch
  pub are : AreStretchesFrom profile intervals 0 stretches
  pub each : EachIsBacked intervals stretches None events

-- the events tell the tape: whatever cells within the tolerance the recording is a piece of, they are what becomes of
-- those of the tape's own windows from the first unequal pair on
pub record ConsecutiveTellsTheTape (system : System) (profile : Profile) (intervals : List ℕ) (events : List FirmEvent)
    : Type 0 where
  pub nothing : HasNoLock profile intervals 0 → events ≡ []
  pub words : (tape : List Cell) (cut lock : ℕ) → IsPiece profile intervals tape cut → IsLock profile intervals 0 lock
      → events ≡ consecutive (firm_events_of_cells system (sum (take lock intervals))
      (cells_from tape cut intervals lock))
