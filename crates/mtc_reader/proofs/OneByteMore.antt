-- The events of one byte more are those of the bytes before it, and what the byte gives.
use Rattle.std.proofs.Common.{◌≡◌, ℕ, ◌≤◌, List, [], ◌∷◌, ◌++◌, length, take, get_or, Option, Some, None}
use Rattle.std.proofs.Common.{refl, sym, ◌∙◌, ap, append-nil, arith}
use Rattle.std.specs.Prelude.{reverse}
use Rattle.std.specs.List.{cons_option}
use Rattle.std.proofs.lemmas.List.{reverse-append}
use Rattle.mtc_reader.specs.declared.event.MtcEvent.{MtcEvent}
use Rattle.mtc_reader.specs.Events.{event_at, events_in, latest_events}
use Rattle.mtc_reader.specs.StandsFor.{events_of}

pub reverse_more : {X : Type 0} (xs : List X) (x : X) → reverse (xs ++ x ∷ []) ≡ x ∷ reverse xs
reverse_more xs x = reverse-append xs (x ∷ [])

reverse-cons_option : (event : Option MtcEvent) (events : List MtcEvent)
    → reverse (cons_option event events) ≡ reverse events ++ events_of event
reverse-cons_option None events = sym (append-nil (reverse events))
reverse-cons_option (Some event) events = reverse-append (event ∷ []) events

pub events_more : (bytes : List ℕ) (byte : ℕ) (result : Option MtcEvent) → result ≡ event_at byte (reverse bytes) →
    events_in (bytes ++ byte ∷ []) ≡ events_in bytes ++ events_of result
events_more bytes byte result is =
    ap (λ xs. reverse (latest_events xs)) (reverse_more bytes byte)
    ∙ reverse-cons_option (event_at byte (reverse bytes)) (latest_events (reverse bytes))
    ∙ ap (λ event. events_in bytes ++ events_of event) (sym is)

-- the status byte of a quarter frame completes nothing
pub status_gives_none : (bytes : List ℕ) → events_in (bytes ++ 0xf1 ∷ []) ≡ events_in bytes
status_gives_none bytes = events_more bytes 0xf1 None refl ∙ append-nil (events_in bytes)

pub first_two : (bytes : List ℕ) → 2 ≤ length bytes → get_or bytes 0 0 ∷ get_or bytes 1 0 ∷ [] ≡ take 2 bytes
first_two [] two = absurd (omega (arith, two))
first_two (byte ∷ []) two = absurd (omega (arith, two))
first_two (byte ∷ next ∷ more) two = refl
