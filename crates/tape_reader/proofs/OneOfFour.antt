-- A reader of a tape is one of four, and what holds of each of them holds of it.
use Rattle.std.proofs.Common.{◌≡◌, ℕ, List, ap₂}
use Rattle.biphase.specs.declared.profile.Profile.{Profile}
use Rattle.direction_reader.specs.declared.firm_event.FirmEvent.{FirmEvent}
use Rattle.direction_reader.specs.declared.witness.Witness.{Witness}
use Rattle.direction_reader.specs.declared.witness.Witness.TheVariants.{NotAsked, Asked, Consecutive, Counted}
use Rattle.direction_reader.specs.KeptReading.{reading_of_all, reading_of_consecutive, reading_of_counted}
use Rattle.direction_reader.specs.KeptReading.{reading_of_firm}
use Rattle.direction_reader.specs.Reading.{ReadingState, TellsItsList}
use Rattle.tc_address.specs.declared.system.System.{System}
use Rattle.tape_reader.specs.declared.reader.TapeReader.{TapeReader}
use Rattle.tape_reader.specs.declared.reader.TapeReader.TheVariants.{Plain, Firm, Joined, Counting}
use Rattle.tape_reader.specs.declared.settings.TapeSettings.{TapeSettings}
use Rattle.tape_reader.specs.Reads.{Keeps}
use Rattle.tape_reader.specs.Tape.{settings_of, told_until, AreTapeTold, StandsFor}

-- a reader of one kind has told what is told of its list
abbrev HasTold : {S : Type 0} → Witness → (S → ReadingState) → Type 0
HasTold {S = S} w reading = (r : S) (l : List ℕ) (told : List FirmEvent) → (reading r).stands l told
    → TellsItsList w (reading r) l told

pub told_of : HasTold NotAsked reading_of_all → HasTold Asked reading_of_firm
    → HasTold Consecutive reading_of_consecutive → HasTold Counted reading_of_counted
    → (tape : TapeReader) (l : List ℕ) (told : List FirmEvent) → StandsFor tape l told
    → AreTapeTold (settings_of tape) l told (told_until tape)
told_of plain firm joined counting (Plain r) l told h = (plain r l told h).are_told
told_of plain firm joined counting (Firm r) l told h = (firm r l told h).are_told
told_of plain firm joined counting (Joined r) l told h = (joined r l told h).are_told
told_of plain firm joined counting (Counting r) l told h = (counting r l told h).are_told

-- settings stay where system and tolerance do
abbrev settings_with : Witness → System → Profile → TapeSettings
settings_with w system profile = record { system = system; profile = profile; witness = w }

pub same_settings : (w : Witness) (old new : ReadingState) → Keeps old new
    → settings_with w new.system new.profile ≡ settings_with w old.system old.profile
same_settings w old new keeps = ap₂ (settings_with w) keeps.system keeps.profile
