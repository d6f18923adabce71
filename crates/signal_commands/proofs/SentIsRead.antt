-- A run that is sent whole is read, whatever bytes come before it and behind it, and all that is read are messages.
use Rattle.std.proofs.Common.{◌≡◌, ◌<◌, ℕ, List, ◌++◌, length, map, refl, sym, ◌∙◌, ap, subst, append_assoc}
use Rattle.tc_address.specs.declared.direction.Direction.{Direction}
use Rattle.tc_address.specs.declared.direction.Direction.TheVariants.{Forward, Backward}
use Rattle.tc_address.specs.Label.{Address, IsLabel}
use Rattle.mtc_reader.specs.declared.event.MtcEvent.{MtcEvent}
use Rattle.mtc_reader.specs.Events.{events_in}
use Rattle.mtc_reader.specs.Laws.{all_falling, all_rising, at_no_place, full_message, run_events, AreLabels}
use Rattle.mtc_reader.specs.Messages.{without_real_time}
use Rattle.mtc_reader.specs.Spelled.{carried_by, placed, AreMessages, AreSounding, SpelledMessage}
use Rattle.tc_command.specs.Command.{IsCommand}
use Rattle.tc_command.specs.Told.{IsLawful, KeepsPromise}
use Rattle.signal_commands.specs.MtcRead.{along_midi, mtc_report, run_of, told_mtc_read, IsRun, ReadsTheMessages}
use Rattle.signal_commands.specs.MtcRead.{ReadsWhatWasSent}
use Rattle.signal_commands.proofs.AreCommands.{EarlierEventsStay}

-- what the laws of the reader say
pub record RunLaws : Type 0 where
  pub stay : EarlierEventsStay
  pub forward : (before : List ℕ) (device : ℕ) (first : Address) (labels : List Address) → device < 0x80
      → IsLabel first → AreLabels labels
      → events_in (before ++ (full_message device first ++ all_rising labels))
      ≡ events_in before ++ run_events (length before) Forward first labels
  pub backward : (before : List ℕ) (device : ℕ) (first : Address) (labels : List Address) → device < 0x80
      → IsLabel first → AreLabels labels
      → events_in (before ++ (full_message device first ++ all_falling labels))
      ≡ events_in before ++ run_events (length before) Backward first labels
  pub among : (a b : List ℕ) → without_real_time a ≡ without_real_time b
      → map at_no_place (events_in a) ≡ map at_no_place (events_in b)
  pub some : (bytes : List ℕ) → (messages : List SpelledMessage) × AreMessages messages bytes
  pub one : (messages others : List SpelledMessage) (bytes : List ℕ) → AreMessages messages bytes
      → AreMessages others bytes → messages ≡ others
  pub carried : (messages : List SpelledMessage) (bytes : List ℕ) → AreMessages messages (without_real_time bytes)
      → map at_no_place (events_in bytes) ≡ map at_no_place (carried_by (placed 0 messages))
  pub whole : (bytes : List ℕ) → AreSounding bytes → without_real_time bytes ≡ bytes
  pub places : (messages : List SpelledMessage) (bytes : List ℕ) → AreSounding bytes → AreMessages messages bytes
      → events_in bytes ≡ carried_by (placed 0 messages)

a_run : RunLaws → (before : List ℕ) (direction : Direction) (device : ℕ) (first : Address) (labels : List Address)
    → IsRun device first labels → events_in (before ++ run_of direction device first labels)
    ≡ events_in before ++ run_events (length before) direction first labels
a_run laws before Forward device first labels is =
    laws.forward before device first labels is.device_is is.first_is is.labels_are
a_run laws before Backward device first labels is =
    laws.backward before device first labels is.device_is is.first_is is.labels_are

-- between other bytes
between : RunLaws → (before after : List ℕ) (direction : Direction) (device : ℕ) (first : Address)
    (labels : List Address) → IsRun device first labels → (later : List MtcEvent)
    × (events_in (before ++ (run_of direction device first labels ++ after))
    ≡ events_in before ++ (run_events (length before) direction first labels ++ later))
between laws before after direction device first labels is =
    let run = run_of direction device first labels in
    let events = run_events (length before) direction first labels in
    let stay = laws.stay (before ++ run) after in (
      stay.0,
      ap events_in (sym (append_assoc before run after)) ∙ stay.1
          ∙ ap (λ (es : List MtcEvent). es ++ stay.0) (a_run laws before direction device first labels is)
          ∙ append_assoc (events_in before) events stay.0,
    )

-- all that is read are messages
reads_the_messages : RunLaws → (bytes : List ℕ) → ReadsTheMessages bytes
reads_the_messages laws bytes =
    let left = without_real_time bytes in
    let list = laws.some left in record {
      messages = list.0;
      are = list.1;
      alone = λ others are. laws.one others list.0 left are list.1;
      carried = laws.carried list.0 bytes list.1;
      whole = laws.whole bytes;
      places = λ sounding. laws.places list.0 bytes sounding
          (subst (AreMessages list.0) (laws.whole bytes sounding) list.1);
    }

pub reads_what_was_sent : RunLaws → (bytes : List ℕ) → ReadsWhatWasSent bytes (mtc_report bytes)
reads_what_was_sent laws bytes = record {
  are = refl;
  messages = reads_the_messages laws bytes;
  sent = λ before after direction device first labels is same.
      let run = between laws before after direction device first labels is in (run.0, ap events_in same ∙ run.1);
  among = λ before after direction device first labels is same.
      let run = between laws before after direction device first labels is in (
        run.0,
        laws.among bytes (before ++ (run_of direction device first labels ++ after)) same
            ∙ ap (λ (es : List MtcEvent). map at_no_place es) run.1,
      );
}

pub midi_is_lawful : IsCommand along_midi → IsLawful told_mtc_read
midi_is_lawful command = record {
  command = command;
  pinned = λ pulled a b p q. p.are ∙ sym q.are;
  unlimited = λ none input spent. spent;
}

pub midi_is_kept : RunLaws → KeepsPromise told_mtc_read
midi_is_kept laws = λ pulled written are input output.
    let all = reads_what_was_sent laws pulled in
    record { are = output; messages = all.messages; sent = all.sent; among = all.among }
