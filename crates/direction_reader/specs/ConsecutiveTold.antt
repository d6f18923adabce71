-- What is given of a list of intervals while more may follow, and up to which tick, where a word without a witness is
-- told if the next word joins it: all that is given with witnesses alone, but for the last event, if the next one
-- decides what becomes of it.
use Rattle.std.specs.Prelude.{◌≡◌, ℕ, List, ◌++◌, Option, Some, None}
use Rattle.biphase.specs.declared.profile.Profile.{Profile}
use Rattle.tc_address.specs.declared.direction.Direction.TheVariants.{Forward, Backward}
use Rattle.tc_address.specs.declared.system.System.{System}
use Rattle.direction_reader.specs.declared.firm_event.FirmEvent.{FirmEvent}
use Rattle.direction_reader.specs.declared.firm_event.FirmEvent.TheVariants.{Told, Alone}
use Rattle.direction_reader.specs.Consecutive.{consecutive, last_of}
use Rattle.direction_reader.specs.Firm.{told_tick}
use Rattle.direction_reader.specs.FirmStep.{firm_listed}
use Rattle.direction_reader.specs.FirmTold.{AreTold}

-- the event, if the next one decides what becomes of it: a word without a witness that is played forward
abbrev pub held_of : Option FirmEvent → Option FirmEvent
held_of None = None
held_of (Some (Told event)) = None
held_of (Some (Alone Forward word tick length)) = Some (Alone Forward word tick length)
held_of (Some (Alone Backward word tick length)) = None

-- up to which tick all is told: up to this one, and up to that of an event that is held
abbrev pub until_held : ℕ → Option FirmEvent → ℕ
until_held now None = now
until_held now (Some event) = told_tick event

-- what is told of a list of intervals while more may follow, and up to which tick
abbrev pub AreConsecutiveTold : System → Profile → List ℕ → List FirmEvent → ℕ → Type 0
AreConsecutiveTold system profile intervals told until = (firm : List FirmEvent) × (now : ℕ)
    × AreTold system profile intervals firm now
    × (consecutive firm ≡ told ++ firm_listed (held_of (last_of firm))) × (until ≡ until_held now (held_of (last_of firm)))
