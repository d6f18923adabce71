-- By which slots the values of a command are read, where its job asks for what they say.
use Rattle.std.specs.Prelude.{◌≡◌, nat_le, true, List, [], ◌∷◌, length, Option, Some, None, IfSome}
use Rattle.forms.specs.Form.{SlotRow}
use Rattle.forms.specs.Reading.{AreRead}
use Rattle.forms.specs.declared.command.Command.{Command}
use Rattle.forms.specs.declared.command.Command.TheVariants as commands
use Rattle.forms.specs.declared.reading.TheConstants.{MAX_VALUES}
use Rattle.forms.specs.declared.table.TheConstants.{FLIGHT, JAM, PCM_PATH, PCM, WAV_PATH, WAV, LEVEL, MAKE, LOAD}
use Rattle.forms.specs.declared.table.TheConstants.{LABEL, CHASE, LUMA, LINES, NUMBER, SINCE, PULLED_SINCE}
use Rattle.forms.specs.declared.table.TheConstants.{COLUMNS_SINCE, PULLED_COLUMNS_SINCE}
use Rattle.forms.specs.declared.value.Value.{Value}

-- the slots of a command whose job has ranges
abbrev pub slots_of : Command → Option (List SlotRow)
slots_of commands.LtcFly = Some FLIGHT.now
slots_of commands.LtcSpans = Some FLIGHT.now
slots_of commands.LtcMtc = Some FLIGHT.now
slots_of commands.LtcJam = Some JAM.now
slots_of commands.PcmPath = Some PCM_PATH.now
slots_of commands.PcmLtc = Some PCM.now
slots_of commands.WavPath = Some WAV_PATH.now
slots_of commands.WavLtc = Some WAV.now
slots_of commands.LtcPcm = Some LEVEL.now
slots_of commands.LtcMake = Some MAKE.now
slots_of commands.LtcLoad = Some LOAD.now
slots_of commands.Chase = Some LABEL.now
slots_of commands.LtcChase = Some CHASE.now
slots_of commands.LumaVitc = Some LUMA.now
slots_of commands.VitcMake = Some LINES.now
slots_of commands.Number = Some LABEL.now
slots_of commands.Label = Some NUMBER.now
slots_of commands.LabelsSince = Some SINCE.now
slots_of commands.PulledLabelsSince = Some PULLED_SINCE.now
slots_of commands.LabelColumnsSince = Some COLUMNS_SINCE.now
slots_of commands.PulledLabelColumnsSince = Some PULLED_COLUMNS_SINCE.now
slots_of _ = None

-- the slots are those of the command, and not too many
abbrev pub IsSuited : List SlotRow → Command → Type 0
IsSuited slots command =
    (nat_le (length slots) MAX_VALUES ≡ true) × IfSome (slots_of command) (λ its. slots ≡ its)

-- each row is so
abbrev pub AreSuited : List (List SlotRow × Command) → Type 0
AreSuited [] = Unit {0}
AreSuited (row ∷ rows) = IsSuited row.0 row.1 × AreSuited rows

-- the values were read by the slots of the command
abbrev pub AreOf : Command → List Value → Type 0
AreOf command values = IfSome (slots_of command) (λ slots. AreRead slots values)
