-- The events of a list of bytes, defined along the list: each byte goes on the message and the row that come before it.
use Rattle.std.proofs.Common.{◌≡◌, ℕ, ◌+◌, Bool, true, false, List, [], ◌∷◌, ◌++◌, length, cond, refl, sym, ◌∙◌, ap}
use Rattle.std.proofs.Common.{append-nil, append_assoc}
use Rattle.std.specs.Prelude.{reverse}
use Rattle.std.specs.List.{cons_option}
use Rattle.std.proofs.lemmas.List.{length-reverse}
use Rattle.lemmas.specs.Lists.{length-last}
use Rattle.mtc_reader.specs.declared.event.MtcEvent.{MtcEvent}
use Rattle.mtc_reader.specs.declared.message.Message.{Message}
use Rattle.mtc_reader.specs.Events.{event_at, event_with, events_in}
use Rattle.mtc_reader.specs.Messages.{Current, is_sounding, without_real_time, completed_by, current_in, messages_in}
use Rattle.mtc_reader.specs.Messages.{with_byte}
use Rattle.mtc_reader.specs.StandsFor.{events_of}
use Rattle.mtc_reader.proofs.OneByteMore.{events_more, reverse_more}

-- the events of the bytes to come, from a place on, with the message and the messages before it
abbrev pub events_along : ℕ → Current → List Message → List ℕ → List MtcEvent
events_along place current messages [] = []
events_along place current messages (byte ∷ more) =
    cond (is_sounding byte)
    (events_of (event_with (completed_by byte current) messages place)
    ++ events_along (place + 1) (with_byte byte current) (cons_option (completed_by byte current) messages) more)
    (events_along (place + 1) current messages more)

-- of the bytes to come after the bytes before
abbrev pub events_after : List ℕ → List ℕ → List MtcEvent
events_after before more =
    let sounding = without_real_time (reverse before) in
    events_along (length before) (current_in sounding) (messages_in sounding) more

step : (sounds : Bool) (before : List ℕ) (byte : ℕ) (more : List ℕ) → is_sounding byte ≡ sounds →
    events_of (event_at byte (reverse before)) ++ events_after (before ++ byte ∷ []) more
    ≡ events_after before (byte ∷ more)
step true before byte more is = rw (reverse_more before byte, length-last before byte, is, length-reverse before) refl
step false before byte more is = rw (reverse_more before byte, length-last before byte, is) refl

-- bytes to come change no event that was given
pub along : (before more : List ℕ) → events_in (before ++ more) ≡ events_in before ++ events_after before more
along before [] = ap events_in (append-nil before) ∙ sym (append-nil (events_in before))
along before (byte ∷ more) =
    let event = event_at byte (reverse before) in
    let next : events_in (before ++ byte ∷ []) ≡ events_in before ++ events_of event =
    events_more before byte event refl in
    ap events_in (sym (append_assoc before (byte ∷ []) more)) ∙ along (before ++ byte ∷ []) more
    ∙ ap (λ events. events ++ events_after (before ++ byte ∷ []) more) next
    ∙ append_assoc (events_in before) (events_of event) (events_after (before ++ byte ∷ []) more)
    ∙ ap (λ events. events_in before ++ events) (step (is_sounding byte) before byte more refl)

-- of all bytes
pub all_along : (bytes : List ℕ) → events_in bytes ≡ events_along 0 (current_in []) [] bytes
all_along bytes = along [] bytes
