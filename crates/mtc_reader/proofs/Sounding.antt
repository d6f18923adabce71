-- One byte more, and what the reader keeps: a real-time byte changes nothing, and each other byte goes on the message.
use Rattle.std.proofs.Common.{◌≡◌, ◌<◌, ◌≤◌, ℕ, ◌+◌, List, [], ◌∷◌, ◌++◌, length, None, refl, sym, ◌∙◌, ap, subst}
use Rattle.std.proofs.Common.{length-append}
use Rattle.std.specs.declared.option.Option.{Option}
use Rattle.std.specs.Prelude.{reverse}
use Rattle.std.specs.List.{cons_option}
use Rattle.std.proofs.lemmas.Bool.{le-ltb, lt-ltb}
use Rattle.std.proofs.lemmas.List.{length-reverse}
use Rattle.mtc_reader.specs.declared.event.MtcEvent.{MtcEvent}
use Rattle.mtc_reader.specs.declared.reader.MtcReader.{MtcReader}
use Rattle.mtc_reader.specs.Events.{event_with, events_in}
use Rattle.mtc_reader.specs.Messages.{completed_by, current_in, messages_in, without_real_time}
use Rattle.mtc_reader.specs.StandsFor.{Keeps, KeepsRow, StandsFor, events_of}
use Rattle.mtc_reader.proofs.OneByteMore.{events_more, reverse_more}

-- the bytes without real-time bytes, with one more
silent : (bytes : List ℕ) (byte : ℕ) → 0xf8 ≤ byte → without_real_time (reverse (bytes ++ byte ∷ []))
    ≡ without_real_time (reverse bytes)
silent bytes byte real = rw (reverse_more bytes byte, le-ltb byte 0xf8 real) refl

sounding : (bytes : List ℕ) (byte : ℕ) → byte < 0xf8
    → without_real_time (reverse (bytes ++ byte ∷ [])) ≡ byte ∷ without_real_time (reverse bytes)
sounding bytes byte other = rw (reverse_more bytes byte, lt-ltb byte 0xf8 other) refl

counted : (count : ℕ) (bytes : List ℕ) (byte : ℕ) → count ≡ length bytes → count + 1 ≡ length (bytes ++ byte ∷ [])
counted count bytes byte is = ap (λ (n : ℕ). n + 1) is ∙ sym (length-append bytes (byte ∷ []))

-- a real-time byte
pub stands_silent : (reader next : MtcReader) (bytes : List ℕ) (byte : ℕ) → 0xf8 ≤ byte → next.bytes ≡ reader.bytes + 1
    → next.message ≡ reader.message → next.row ≡ reader.row → StandsFor reader bytes
    → StandsFor next (bytes ++ byte ∷ [])
stands_silent reader next bytes byte real count message row stands = record {
  count = count ∙ counted reader.bytes bytes byte stands.count;
  message = rw (silent bytes byte real, message) stands.message;
  row = rw (silent bytes byte real, row) stands.row;
}

pub gives_silent : (bytes : List ℕ) (byte : ℕ) → 0xf8 ≤ byte → events_in (bytes ++ byte ∷ []) ≡ events_in bytes
    ++ events_of None
gives_silent bytes byte real = events_more bytes byte None (rw (le-ltb byte 0xf8 real) refl)

-- each other byte, if a message is complete with it or none is
pub stands_sounding : (reader next : MtcReader) (bytes : List ℕ) (byte : ℕ) → byte < 0xf8
    → next.bytes ≡ reader.bytes + 1
    → ((before : List ℕ) → Keeps reader.message before → Keeps next.message (byte ∷ before))
    → KeepsRow next.row (cons_option (completed_by byte (current_in (without_real_time (reverse bytes))))
    (messages_in (without_real_time (reverse bytes))))
    → StandsFor reader bytes → StandsFor next (bytes ++ byte ∷ [])
stands_sounding reader next bytes byte other count message row stands = record {
  count = count ∙ counted reader.bytes bytes byte stands.count;
  message = subst (λ (l : List ℕ). Keeps next.message l) (sym (sounding bytes byte other))
      (message (without_real_time (reverse bytes)) stands.message);
  row = subst (λ (l : List ℕ). KeepsRow next.row (messages_in l)) (sym (sounding bytes byte other)) row;
}

pub gives_sounding : (bytes : List ℕ) (byte place : ℕ) (result : Option MtcEvent) → byte < 0xf8 → place ≡ length bytes
    → result ≡ event_with (completed_by byte (current_in (without_real_time (reverse bytes))))
    (messages_in (without_real_time (reverse bytes))) place
    → events_in (bytes ++ byte ∷ []) ≡ events_in bytes ++ events_of result
gives_sounding bytes byte place result other count is =
    events_more bytes byte result (rw (lt-ltb byte 0xf8 other, length-reverse bytes) (rw count at is))
