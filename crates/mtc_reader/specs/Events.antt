-- The labels that the messages of MIDI Time Code carry. Eight quarter frames in a row carry an address: no other
-- quarter frame and no full message comes between them, and their pieces rise from 0 to 7 or fall from 7 to 0. They
-- may share quarter frames with other eight.
use Rattle.std.specs.Prelude.{ℕ, ◌+◌, ◌-◌, ◌*◌, ◌/◌, ◌%◌, ◌==◌, if◌then◌else◌, nat_le, cond, Option, Some, None, Result}
use Rattle.std.specs.Prelude.{Ok, Err}
use Rattle.std.specs.Prelude.{List, [], ◌∷◌, ◌++◌, length, map, drop, slice_index, reverse}
use Rattle.std.specs.List.{cons_option}
use Rattle.std.specs.Str.{bytes_eq}
use Rattle.tc_address.specs.declared.count.Count.{Count}
use Rattle.tc_address.specs.declared.count.Count.TheVariants.{C24, C25, C30, Drop30}
use Rattle.tc_address.specs.declared.direction.Direction.{Direction}
use Rattle.tc_address.specs.declared.direction.Direction.TheVariants.{Forward, Backward}
use Rattle.tc_address.specs.declared.label.LabelFault.{LabelFault}
use Rattle.tc_address.specs.declared.label.LabelFault.TheVariants as faults
use Rattle.tc_address.specs.Count.{rate_of, system_with}
use Rattle.tc_address.specs.Label.{Address, address, is_label}
use Rattle.mtc_reader.specs.declared.event.MtcEvent.{MtcEvent}
use Rattle.mtc_reader.specs.declared.event.MtcEvent.TheVariants.{Full, Quarter, RefusedFull, RefusedQuarter}
use Rattle.mtc_reader.specs.declared.message.Message.{Message}
use Rattle.mtc_reader.specs.declared.message.Message.TheVariants.{QuarterFrame, FullMessage}
use Rattle.mtc_reader.specs.Messages.{is_sounding, without_real_time, current_in, completed_by, messages_in}

-- the count that two bits say
abbrev pub count_with : ℕ → Count
count_with code = if code == 0 then C24 else if code == 1 then C25 else if code == 2 then Drop30 else C30

-- the first fault of an address that is no label
abbrev pub fault_of : Address → LabelFault
fault_of a =
    if nat_le 24 a.hours then faults.Hours
    else if nat_le 60 a.minutes then faults.Minutes
    else if nat_le 60 a.seconds then faults.Seconds
    else if nat_le (rate_of (system_with a.count)) a.frames then faults.Frames
    else faults.Dropped

-- the address as a label, or its first fault
abbrev pub label_or_fault : Address → Result Address LabelFault
label_or_fault a = cond (is_label a) (Ok a) (Err (fault_of a))

-- what the address of a full message gives, complete at a byte place
abbrev pub full_event : Address → ℕ → MtcEvent
full_event a place = cond (is_label a) (Full a place) (RefusedFull (fault_of a) place)

-- what the address of eight quarter frames gives
abbrev pub quarter_event : Direction → Address → ℕ → MtcEvent
quarter_event direction a place =
    cond (is_label a) (Quarter direction a place) (RefusedQuarter direction (fault_of a) place)

-- the address of a full message: the count stands above the five bits of the hours
abbrev pub full_address : ℕ → ℕ → ℕ → ℕ → Address
full_address hours minutes seconds frames = address (count_with (hours / 32)) (hours % 32) minutes seconds frames

-- the piece that a quarter frame carries, and its four bits
abbrev pub piece_of : ℕ → ℕ
piece_of quarter = quarter / 16

-- the four bits that a quarter frame carries
abbrev pub bits_of : ℕ → ℕ
bits_of quarter = quarter % 16

-- the bits of a piece, of eight quarter frames in the order of their pieces
abbrev pub bits_at : List ℕ → ℕ → ℕ
bits_at window piece = bits_of (slice_index window piece)

-- the address of eight quarter frames in the order of their pieces. The lower piece of a number has its low four bits,
-- the higher one those above them, and above the bit of the hours two bits say the count. Bits that no number has are
-- not looked at
abbrev pub quarter_address : List ℕ → Address
quarter_address window =
    address (count_with (bits_at window 7 / 2 % 4)) (bits_at window 6 + 16 * (bits_at window 7 % 2))
    (bits_at window 4 + 16 * (bits_at window 5 % 4))
    (bits_at window 2 + 16 * (bits_at window 3 % 4)) (bits_at window 0 + 16 * (bits_at window 1 % 2))

-- the row of quarter frames that goes on, in the order in which they came: those since the last full message, of
-- messages the latest first
abbrev pub row_in : List Message → List ℕ
row_in [] = []
row_in (QuarterFrame quarter ∷ before) = row_in before ++ quarter ∷ []
row_in (FullMessage hours minutes seconds frames ∷ before) = []

-- the latest eight of a row, or all of a row that is shorter
abbrev pub latest_eight : List ℕ → List ℕ
latest_eight row = drop (length row - 8) row

-- the pieces, from 0 to 7
abbrev pub pieces : List ℕ
pieces = 0 ∷ 1 ∷ 2 ∷ 3 ∷ 4 ∷ 5 ∷ 6 ∷ 7 ∷ []

-- what the latest eight quarter frames of a row carry: their pieces rise, or they fall
abbrev pub window_event : List ℕ → ℕ → Option MtcEvent
window_event window place =
    if bytes_eq (map piece_of window) pieces then Some (quarter_event Forward (quarter_address window) place)
    else if bytes_eq (map piece_of (reverse window)) pieces
    then Some (quarter_event Backward (quarter_address (reverse window)) place)
    else None

-- what a message that is complete at a byte place gives, after the messages before it
abbrev pub event_of : Message → List Message → ℕ → Option MtcEvent
event_of (FullMessage hours minutes seconds frames) before place =
    Some (full_event (full_address hours minutes seconds frames) place)
event_of (QuarterFrame quarter) before place = window_event (latest_eight (row_in before ++ quarter ∷ [])) place

-- the same where there is a message
abbrev pub event_with : Option Message → List Message → ℕ → Option MtcEvent
event_with None before place = None
event_with (Some message) before place = event_of message before place

-- what a byte gives after the bytes before it, the latest first: its place is how many they are
abbrev pub event_at : ℕ → List ℕ → Option MtcEvent
event_at byte before =
    let sounding = without_real_time before in
    if is_sounding byte then event_with (completed_by byte (current_in sounding)) (messages_in sounding) (length before)
    else None

-- the events of bytes, the latest first in both
abbrev pub latest_events : List ℕ → List MtcEvent
latest_events [] = []
latest_events (byte ∷ before) = cons_option (event_at byte before) (latest_events before)

-- the events of a list of bytes, in order
abbrev pub events_in : List ℕ → List MtcEvent
events_in bytes = reverse (latest_events (reverse bytes))
