-- The events of bytes are what their messages carry, and system real-time bytes among them change places alone.
use Rattle.std.proofs.Common.{◌≡◌, ℕ, Bool, true, false, List, [], ◌∷◌, cond, map, inl, refl, sym, ◌∙◌, ap}
use Rattle.std.proofs.lemmas.Bool.{lt-ltb, ltb-true}
use Rattle.mtc_reader.specs.declared.event.MtcEvent.{MtcEvent}
use Rattle.mtc_reader.specs.Events.{events_in}
use Rattle.mtc_reader.specs.Laws.{at_no_place}
use Rattle.mtc_reader.specs.Messages.{current_in, is_sounding, without_real_time}
use Rattle.mtc_reader.specs.Spelled.{AreMessages, AreSounding, SpelledMessage, carried_by, placed}
use Rattle.mtc_reader.proofs.AlongTheBytes.{all_along}
use Rattle.mtc_reader.proofs.EightNeighbours.{all_carried}
use Rattle.mtc_reader.proofs.MessagesAlong.{messages_along}
use Rattle.mtc_reader.proofs.PlacesOnly.{same_events}

pub carried : (messages : List SpelledMessage) (bytes : List ℕ) → AreSounding bytes → AreMessages messages bytes
    → events_in bytes ≡ carried_by (placed 0 messages)
carried messages bytes sounding are =
    all_along bytes ∙ messages_along messages bytes 0 (current_in []) [] sounding (inl refl) are
    ∙ all_carried (placed 0 messages)

-- bytes without real-time bytes are left as they are
pub sounding_whole : (bytes : List ℕ) → AreSounding bytes → without_real_time bytes ≡ bytes
sounding_whole [] sounding = refl
sounding_whole (byte ∷ bytes) sounding =
    rw (lt-ltb byte 0xf8 sounding.0) (ap (λ (l : List ℕ). byte ∷ l) (sounding_whole bytes sounding.1))

-- and there are none in what is left
left_with : (sounds : Bool) (byte : ℕ) (left : List ℕ) → is_sounding byte ≡ sounds → AreSounding left
    → AreSounding (cond sounds (byte ∷ left) left)
left_with true byte left is sounding = (ltb-true byte 0xf8 is, sounding)
left_with false byte left is sounding = sounding

left_sounding : (bytes : List ℕ) → AreSounding (without_real_time bytes)
left_sounding [] = tt
left_sounding (byte ∷ bytes) =
    left_with (is_sounding byte) byte (without_real_time bytes) refl (left_sounding bytes)

pub among : (messages : List SpelledMessage) (bytes : List ℕ) → AreMessages messages (without_real_time bytes)
    → map at_no_place (events_in bytes) ≡ map at_no_place (carried_by (placed 0 messages))
among messages bytes are =
    let left = without_real_time bytes in
    let sounding = left_sounding bytes in
    same_events bytes left (sym (sounding_whole left sounding))
    ∙ ap (λ (es : List MtcEvent). map at_no_place es) (carried messages left sounding are)
