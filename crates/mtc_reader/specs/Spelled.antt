-- The messages of MIDI Time Code that are spelled in bytes, and what they carry, said without a reader (MIDI 1.0,
-- "system exclusive messages"; MIDI Time Code, "quarter frame messages" and "full message"). Bytes among which no
-- system real-time byte comes are a list of such messages, with bytes between them that hold none.
use Rattle.std.specs.Prelude.{◌≡◌, ◌≢◌, ◌<◌, ℕ, ◌+◌, ◌-◌, List, [], ◌∷◌, ◌++◌, length, take, Option, Some}
use Rattle.std.specs.List.{cons_option}
use Rattle.mtc_reader.specs.declared.event.MtcEvent.{MtcEvent}
use Rattle.mtc_reader.specs.declared.message.Message.{Message}
use Rattle.mtc_reader.specs.declared.message.Message.TheVariants.{QuarterFrame, FullMessage}
use Rattle.mtc_reader.specs.Events.{full_address, full_event, window_event}

-- no byte is a system real-time byte
abbrev pub AreSounding : List ℕ → Type 0
AreSounding [] = Unit {0}
AreSounding (byte ∷ more) = (byte < 0xf8) × AreSounding more

-- bytes spell a message: a quarter frame is `f1` and a data byte, and a full message `f0 7f dd 01 01 hr mn sc fr f7` to
-- any device dd
abbrev pub Spells : Message → List ℕ → Type 0
Spells (QuarterFrame number) bytes = (number < 0x80) × (bytes ≡ 0xf1 ∷ number ∷ [])
Spells (FullMessage hours minutes seconds frames) bytes =
    (device : ℕ) × (device < 0x80) × (hours < 0x80) × (minutes < 0x80) × (seconds < 0x80) × (frames < 0x80)
    × (bytes ≡ 0xf0 ∷ 0x7f ∷ device ∷ 0x01 ∷ 0x01 ∷ hours ∷ minutes ∷ seconds ∷ frames ∷ 0xf7 ∷ [])

-- no message is spelled anywhere in the bytes
abbrev pub HoldNone : List ℕ → Type 0
HoldNone bytes = (before spelled after : List ℕ) (message : Message) → Spells message spelled
    → bytes ≢ before ++ (spelled ++ after)

-- a message as it stands in bytes: the bytes between it and the message before it, and its own
pub record SpelledMessage : Type 0 where
  pub between : List ℕ
  pub spelled : List ℕ
  pub message : Message

-- bytes are these messages one after another, each behind bytes that hold none, and behind the last one others that
-- hold none
abbrev pub AreMessages : List SpelledMessage → List ℕ → Type 0
AreMessages [] bytes = HoldNone bytes
AreMessages (one ∷ more) bytes =
    (rest : List ℕ) × (bytes ≡ one.between ++ (one.spelled ++ rest)) × HoldNone one.between
    × Spells one.message one.spelled × AreMessages more rest

-- a message, and the place of its last byte
pub record PlacedMessage : Type 0 where
  pub message : Message
  pub place : ℕ

-- the messages of bytes from a place on
abbrev pub placed : ℕ → List SpelledMessage → List PlacedMessage
placed at [] = []
placed at (one ∷ more) =
    let end = at + length one.between + length one.spelled in
    record { message = one.message; place = end - 1 } ∷ placed end more

-- a quarter frame goes before the row behind it, and a full message ends all rows before it
abbrev pub row_with : Message → List ℕ → List ℕ
row_with (QuarterFrame number) row = number ∷ row
row_with (FullMessage hours minutes seconds frames) row = []

-- the data bytes of the quarter frames with which messages begin
abbrev pub row_of : List PlacedMessage → List ℕ
row_of [] = []
row_of (one ∷ more) = row_with one.message (row_of more)

-- the place of the last one
abbrev pub last_place : List PlacedMessage → ℕ
last_place [] = 0
last_place (one ∷ []) = one.place
last_place (one ∷ next ∷ more) = last_place (next ∷ more)

-- what eight messages carry: they are quarter frames, and their pieces rise or fall
abbrev pub eight_event : List PlacedMessage → Option MtcEvent
eight_event eight = window_event (row_of eight) (last_place eight)

-- what a message begins: a full message carries its address, and a quarter frame may be the first of eight neighbouring
-- messages
abbrev pub event_begun : Message → ℕ → List PlacedMessage → Option MtcEvent
event_begun (FullMessage hours minutes seconds frames) place eight =
    Some (full_event (full_address hours minutes seconds frames) place)
event_begun (QuarterFrame number) place eight = eight_event eight

-- the events of messages, in order
abbrev pub carried_by : List PlacedMessage → List MtcEvent
carried_by [] = []
carried_by (one ∷ more) =
    cons_option (event_begun one.message one.place (take 8 (one ∷ more))) (carried_by more)
