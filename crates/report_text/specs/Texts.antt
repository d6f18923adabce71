-- The lines of a reading, byte for byte.
use Rattle.std.specs.Prelude.{ℕ, ◌*◌, ◌/◌, ◌<◌, ◌≤◌, ◌^◌, List, ◌++◌, codes, decimal}
use Rattle.tc_address.specs.declared.direction.Direction.{Direction}
use Rattle.tc_address.specs.Count.{rate_of}
use Rattle.tc_address.specs.Spelling.{text_of}
use Rattle.tc_bits.specs.Fault.{name_of}
use Rattle.direction_reader.specs.declared.event.Event.{Event}
use Rattle.direction_reader.specs.declared.event.Event.TheVariants.{Word, Refused, Lost}
use Rattle.direction_reader.specs.declared.firm_event.FirmEvent.{FirmEvent}
use Rattle.direction_reader.specs.declared.firm_event.FirmEvent.TheVariants.{Told, Alone}
use Rattle.interval_file.specs.declared.header.IntervalHeader.{IntervalHeader}
use Rattle.line_text.specs.Line.{direction_name, flag_digit, flags_text, user_text}

-- thousandths of nominal, rounded down: at nominal speed a word lasts a frame of the system
abbrev pub speed_of : IntervalHeader → ℕ → ℕ
speed_of header length = 1000 * header.tick_rate / (rate_of header.system * length)

-- the line of an event: of a word, of a refused word, and of a break
abbrev pub event_line : IntervalHeader → Event → List ℕ
event_line header (Word direction word tick length) =
    codes "word " ++ direction_name direction ++ codes " " ++ text_of word.fields.label
    ++ codes " user " ++ user_text word.fields.user ++ codes " flags " ++ flags_text word.fields.flags
    ++ codes " balance " ++ flag_digit word.balanced ++ codes " tick " ++ decimal tick
    ++ codes " length " ++ decimal length ++ codes " speed " ++ decimal (speed_of header length) ++ codes "\n"
event_line header (Refused direction fault tick) =
    codes "refused " ++ direction_name direction ++ codes " " ++ name_of fault ++ codes " tick " ++ decimal tick
    ++ codes "\n"
event_line header (Lost interval tick) =
    codes "lost interval " ++ decimal interval ++ codes " tick " ++ decimal tick ++ codes "\n"

-- the line of a word without a witness, which is refused
abbrev pub alone_line : Direction → ℕ → List ℕ
alone_line direction tick =
    codes "refused " ++ direction_name direction ++ codes " alone tick " ++ decimal tick ++ codes "\n"

-- the line of what is told where each word is asked for a witness
abbrev pub firm_event_line : IntervalHeader → FirmEvent → List ℕ
firm_event_line header (Told event) = event_line header event
firm_event_line header (Alone direction word tick length) = alone_line direction tick

-- the last line of a reading
abbrev pub read_end_line : ℕ → ℕ → ℕ → ℕ → ℕ → List ℕ
read_end_line intervals words refused lost ticks =
    codes "end intervals " ++ decimal intervals ++ codes " words " ++ decimal words ++ codes " refused "
    ++ decimal refused
    ++ codes " lost " ++ decimal lost ++ codes " ticks " ++ decimal ticks ++ codes "\n"

-- the numbers of an event are small enough for its line
abbrev pub FitsLine : Event → Type 0
FitsLine (Word direction word tick length) = (tick < 2 ^ 60) × (1 ≤ length) × (length < 2 ^ 32)
FitsLine (Refused direction fault tick) = tick < 2 ^ 60
FitsLine (Lost interval tick) = (interval < 2 ^ 40) × (tick < 2 ^ 60)

-- and so are those of what is told where each word is asked for a witness
abbrev pub FitsFirmLine : FirmEvent → Type 0
FitsFirmLine (Told event) = FitsLine event
FitsFirmLine (Alone direction word tick length) = tick < 2 ^ 60
