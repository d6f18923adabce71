-- `mtc-read`: the labels that MIDI bytes carry, a line each. Any bytes are MIDI bytes, so nothing is refused.
use Rattle.std.specs.Prelude.{◌≡◌, ◌<◌, ℕ, Bool, true, false, nat_lt, cond, List, ◌++◌, take, length, map, count_by}
use Rattle.std.specs.Prelude.{None}
use Rattle.std.specs.List.{flat_map}
use Rattle.mtc_reader.specs.declared.event.MtcEvent.{MtcEvent}
use Rattle.mtc_reader.specs.declared.event.MtcEvent.TheVariants.{Full, Quarter, RefusedFull, RefusedQuarter}
use Rattle.mtc_reader.specs.Events.{events_in}
use Rattle.mtc_reader.specs.Laws.{all_falling, all_rising, at_no_place, full_message, run_events, AreLabels}
use Rattle.mtc_reader.specs.Messages.{without_real_time}
use Rattle.mtc_reader.specs.Spelled.{carried_by, placed, AreMessages, AreSounding, SpelledMessage}
use Rattle.mtc_reader.specs.Texts.{event_line, end_line}
use Rattle.tc_address.specs.declared.direction.Direction.{Direction}
use Rattle.tc_address.specs.declared.direction.Direction.TheVariants.{Forward, Backward}
use Rattle.tc_address.specs.Label.{Address, IsLabel}
use Rattle.tc_io.specs.Verdict.{Verdict, good, past_limit}
use Rattle.signal_commands.specs.declared.mtc_read.TheConstants.{MAX_BYTES}
use Rattle.tc_command.specs.Meaning.{Meaning}
use Rattle.tc_command.specs.declared.input_fault.InputFault.{InputFault}
use Rattle.tc_command.specs.Told.{Told}

-- the lines of events, one after another
abbrev pub event_lines : List MtcEvent → List ℕ
event_lines events = flat_map event_line events

-- the label of a full message
abbrev pub is_full : MtcEvent → Bool
is_full (Full label place) = true
is_full event = false

-- the label of eight quarter frames
abbrev pub is_quarter : MtcEvent → Bool
is_quarter (Quarter direction label place) = true
is_quarter event = false

-- an address that is no label
abbrev pub is_refused : MtcEvent → Bool
is_refused (Full label place) = false
is_refused (Quarter direction label place) = false
is_refused (RefusedFull fault place) = true
is_refused (RefusedQuarter direction fault place) = true

-- the last line counts the bytes and the events of each kind
abbrev pub last_mtc_line : List ℕ → List MtcEvent → List ℕ
last_mtc_line bytes events =
    end_line (length bytes) (count_by is_full events) (count_by is_quarter events) (count_by is_refused events)

-- at most this many bytes are read
abbrev pub verdict_within : ℕ → List ℕ → Verdict InputFault
verdict_within most bytes = cond (nat_lt most (length bytes)) past_limit good

-- the lines whose last byte is among this many first bytes
abbrev pub lines_within : ℕ → List ℕ → List ℕ
lines_within most bytes = event_lines (events_in (take most bytes))

-- the lines of the events, and the last line
abbrev pub mtc_report : List ℕ → List ℕ
mtc_report bytes = event_lines (events_in bytes) ++ last_mtc_line bytes (events_in bytes)

-- what it takes and what it writes
abbrev pub along_midi : Meaning
along_midi = record {
  reads = true;
  verdict = verdict_within MAX_BYTES;
  end_fault = λ bytes. None;
  spent = λ bytes. ⊥;
  part = λ bytes written. written ≡ lines_within MAX_BYTES bytes;
  output = λ bytes written. written ≡ mtc_report bytes;
}

-- ---- what was sent is read

-- the bytes of a run that is sent whole: the full message of a label to a device, and then labels, each in the eight
-- quarter frames of two frames, forward or backward
abbrev pub run_of : Direction → ℕ → Address → List Address → List ℕ
run_of Forward device first labels = full_message device first ++ all_rising labels
run_of Backward device first labels = full_message device first ++ all_falling labels

-- it may be sent: to a device that there is, and of labels
pub record IsRun (device : ℕ) (first : Address) (labels : List Address) : Type 0 where
  pub device_is : device < 0x80
  pub first_is : IsLabel first
  pub labels_are : AreLabels labels

-- ---- all that was sent

-- the bytes but for the system real-time bytes are spelled messages with other bytes between, in one way alone, and
-- what is read are each full message and each eight neighbouring quarter frames whose pieces rise or fall; at their
-- places, where no system real-time byte stands in the bytes
pub record ReadsTheMessages (bytes : List ℕ) : Type 0 where
  pub messages : List SpelledMessage
  pub are : AreMessages messages (without_real_time bytes)
  pub alone : (others : List SpelledMessage) → AreMessages others (without_real_time bytes) → others ≡ messages
  pub carried : map at_no_place (events_in bytes) ≡ map at_no_place (carried_by (placed 0 messages))
  pub whole : AreSounding bytes → without_real_time bytes ≡ bytes
  pub places : AreSounding bytes → events_in bytes ≡ carried_by (placed 0 messages)

-- what was written are the lines of the events in the bytes, and the last line. These events are what the messages in
-- the bytes carry. And whatever bytes come before and behind a run, its label and its pairs are read one after
-- another, each at the place of its last byte, after the events of what comes before; and so they are, but for their
-- places, if system real-time bytes are among them
pub record ReadsWhatWasSent (bytes written : List ℕ) : Type 0 where
  pub are : written ≡ event_lines (events_in bytes) ++ last_mtc_line bytes (events_in bytes)
  pub messages : ReadsTheMessages bytes
  pub sent : (before after : List ℕ) (direction : Direction) (device : ℕ) (first : Address) (labels : List Address)
      → IsRun device first labels → bytes ≡ before ++ (run_of direction device first labels ++ after)
      → (later : List MtcEvent)
      × (events_in bytes ≡ events_in before ++ (run_events (length before) direction first labels ++ later))
  pub among : (before after : List ℕ) (direction : Direction) (device : ℕ) (first : Address) (labels : List Address)
      → IsRun device first labels
      → without_real_time bytes ≡ without_real_time (before ++ (run_of direction device first labels ++ after))
      → (later : List MtcEvent) × (map at_no_place (events_in bytes)
      ≡ map at_no_place (events_in before ++ (run_events (length before) direction first labels ++ later)))

-- what is told of it
abbrev pub told_mtc_read : Told
told_mtc_read = record { meaning = along_midi; promise = ReadsWhatWasSent; has_own_limit = false }
