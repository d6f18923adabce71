-- Which lists of bytes a reader stands for. What it keeps of the message on its way and of the row of quarter frames
-- is tied to the list here.
use Rattle.std.specs.Prelude.{◌≡◌, ◌⊎◌, ⊤, ◌<◌, ℕ, ◌+◌, ◌/◌, ◌%◌, ◌^◌, Bool, ◌==◌, ◌&&◌, ◌||◌, List, [], ◌∷◌, ◌++◌}
use Rattle.std.specs.Prelude.{length, reverse, take}
use Rattle.std.specs.Prelude.{slice_index, Option, Some, None}
use Rattle.mtc_reader.specs.declared.current.CurrentMessage.{CurrentMessage}
use Rattle.mtc_reader.specs.declared.eight.EightQuarters.{EightQuarters}
use Rattle.mtc_reader.specs.declared.eight.TheConstants.{NO_QUARTER}
use Rattle.mtc_reader.specs.declared.event.MtcEvent.{MtcEvent}
use Rattle.mtc_reader.specs.declared.event.MtcEvent.TheVariants as events
use Rattle.mtc_reader.specs.declared.message.Message.{Message}
use Rattle.mtc_reader.specs.declared.message.MessageKind.{MessageKind}
use Rattle.mtc_reader.specs.declared.message.MessageKind.TheVariants.{Quarter, Exclusive, Other}
use Rattle.mtc_reader.specs.declared.reader.MtcReader.{MtcReader}
use Rattle.mtc_reader.specs.declared.row.Row.{Row}
use Rattle.mtc_reader.specs.Messages.{Current, current_in, messages_in, without_real_time}
use Rattle.mtc_reader.specs.Events.{piece_of, row_in, latest_eight}

-- the data bytes that are kept: one more than a full message has
abbrev pub first_nine : List ℕ → List ℕ
first_nine numbers = take 9 numbers

-- no byte completes it any more: it is no message of MIDI Time Code, or a quarter frame that is complete
abbrev pub IsPast : Current → Type 0
IsPast current = (current.kind ≡ Other) ⊎ ((current.kind ≡ Quarter) × (0 < length current.numbers))

-- a message is that on its way, as far as it matters what kind may still be completed, and with which data bytes
abbrev pub KeepsAs : MessageKind → List ℕ → Current → Type 0
KeepsAs Quarter numbers current = (current.kind ≡ Quarter) × (current.numbers ≡ [])
KeepsAs Exclusive numbers current = (current.kind ≡ Exclusive) × (numbers ≡ first_nine current.numbers)
KeepsAs Other numbers current = IsPast current

-- the message on its way is that of these bytes, the latest first, which are no real-time bytes
abbrev pub Keeps : CurrentMessage → List ℕ → Type 0
Keeps message bytes = KeepsAs message.kind message.numbers.items (current_in bytes)

-- eight numbers that are no quarter frames, and then quarter frames
abbrev pub padded : List ℕ → List ℕ
padded row =
    NO_QUARTER ∷ NO_QUARTER ∷ NO_QUARTER ∷ NO_QUARTER ∷ NO_QUARTER ∷ NO_QUARTER ∷ NO_QUARTER ∷ NO_QUARTER ∷ row

-- eight quarter frames begin and end as those that carry an address
abbrev pub have_ends : List ℕ → Bool
have_ends window =
    let first = piece_of (slice_index window 0) in
    let last = piece_of (slice_index window 7) in
    (first == 0) && (last == 7) || (first == 7) && (last == 0)

-- one more quarter frame behind eight may end eight others that carry an address
abbrev pub may_end : List ℕ → ℕ → Bool
may_end window quarter = have_ends (latest_eight (window ++ quarter ∷ []))

-- the data bytes of four quarter frames in a number, each with both its bytes, the first one highest
abbrev pub four_in : ℕ → List ℕ
four_in four = (four / 2 ^ 48 % 256) ∷ (four / 2 ^ 32 % 256) ∷ (four / 2 ^ 16 % 256) ∷ (four % 256) ∷ []

-- the data bytes of eight
abbrev pub eight_in : EightQuarters → List ℕ
eight_in eight = four_in eight.first ++ four_in eight.last

-- the row is that of these messages, the latest first
abbrev pub KeepsRow : Row → List Message → Type 0
KeepsRow row messages = eight_in row.latest ≡ latest_eight (padded (row_in messages))

-- the reader was given these bytes
pub record StandsFor (reader : MtcReader) (bytes : List ℕ) : Type 0 where
  pub count : reader.bytes ≡ length bytes
  pub message : Keeps reader.message (without_real_time (reverse bytes))
  pub row : KeepsRow reader.row (messages_in (without_real_time (reverse bytes)))

-- one event or none
abbrev pub events_of : Option MtcEvent → List MtcEvent
events_of None = []
events_of (Some event) = event ∷ []

-- the byte place at which an event is complete
abbrev pub place_of : MtcEvent → ℕ
place_of (events.Full label place) = place
place_of (events.Quarter direction label place) = place
place_of (events.RefusedFull fault place) = place
place_of (events.RefusedQuarter direction fault place) = place

-- the event, if there is one, is complete with the last of this many bytes
abbrev pub IsCompleteWith : ℕ → Option MtcEvent → Type 0
IsCompleteWith bytes None = ⊤
IsCompleteWith bytes (Some event) = place_of event + 1 ≡ bytes
