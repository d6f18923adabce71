-- The messages of MIDI Time Code in a list of bytes (MIDI 1.0, "system real time messages" and "system exclusive
-- messages"; MIDI Time Code, "quarter frame messages" and "full message"). The lists of bytes in this file have no
-- system real-time bytes, and their latest byte first.
use Rattle.std.specs.Prelude.{ℕ, Bool, ◌&&◌, ◌==◌, nat_lt, cond, if◌then◌else◌, List, [], ◌∷◌, ◌++◌, Option, Some, None}
use Rattle.std.specs.List.{filter, cons_option}
use Rattle.mtc_reader.specs.declared.message.MessageKind.{MessageKind}
use Rattle.mtc_reader.specs.declared.message.MessageKind.TheVariants.{Quarter, Exclusive, Other}
use Rattle.mtc_reader.specs.declared.message.Message.{Message}
use Rattle.mtc_reader.specs.declared.message.Message.TheVariants.{QuarterFrame, FullMessage}

-- a byte is no system real-time byte
abbrev pub is_sounding : ℕ → Bool
is_sounding byte = nat_lt byte 0xf8

-- the bytes without the system real-time bytes, which may stand anywhere
abbrev pub without_real_time : List ℕ → List ℕ
without_real_time bytes = filter is_sounding bytes

-- a data byte. Each other byte is the status byte of a message
abbrev pub is_data : ℕ → Bool
is_data byte = nat_lt byte 0x80

-- the kind of the message that a status byte begins
abbrev pub kind_with : ℕ → MessageKind
kind_with status = if status == 0xf1 then Quarter else if status == 0xf0 then Exclusive else Other

-- a message as far as it has come: its kind and its data bytes, in order
pub record Current : Type 0 where
  pub kind : MessageKind
  pub numbers : List ℕ

-- the message to which a byte belongs, after the one before it: a data byte goes on it, and a status byte begins
-- another
abbrev pub with_byte : ℕ → Current → Current
with_byte byte current =
    cond (is_data byte) (record {
      kind = current.kind;
      numbers = current.numbers ++ byte ∷ [];
    }) (record { kind = kind_with byte; numbers = [] })

-- the message to which the latest byte belongs. What stands before the first status byte is no message of MIDI Time
-- Code
abbrev pub current_in : List ℕ → Current
current_in [] = record { kind = Other; numbers = [] }
current_in (byte ∷ before) = with_byte byte (current_in before)

-- the quarter frame that a data byte completes, after the data bytes before it: it is the first one
abbrev pub quarter_with : MessageKind → List ℕ → ℕ → Option Message
quarter_with Quarter [] byte = Some (QuarterFrame byte)
quarter_with Quarter (number ∷ more) byte = None
quarter_with Exclusive numbers byte = None
quarter_with Other numbers byte = None

-- the full message that has exactly the data bytes `7f dd 01 01 hr mn sc fr`, for any device dd
abbrev pub full_in : List ℕ → Option Message
full_in (realtime ∷ device ∷ first ∷ second ∷ hours ∷ minutes ∷ seconds ∷ frames ∷ []) =
    cond ((realtime == 0x7f) && (first == 1) && (second == 1)) (Some (FullMessage hours minutes seconds frames)) None
full_in other = None

-- the full message that the end of a message completes: it is a system exclusive message
abbrev pub full_with : MessageKind → List ℕ → Option Message
full_with Quarter numbers = None
full_with Exclusive numbers = full_in numbers
full_with Other numbers = None

-- the message that a byte completes: a quarter frame at a data byte, a full message at `f7`
abbrev pub completed_by : ℕ → Current → Option Message
completed_by byte current =
    if is_data byte then quarter_with current.kind current.numbers byte
    else if byte == 0xf7 then full_with current.kind current.numbers else None

-- the quarter frames and full messages in a list of bytes, the latest first
abbrev pub messages_in : List ℕ → List Message
messages_in [] = []
messages_in (byte ∷ before) = cons_option (completed_by byte (current_in before)) (messages_in before)
