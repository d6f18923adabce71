-- What a reader of MIDI Time Code says of each call, as what it stands for; and fronts of bytes.
use Rattle.std.proofs.Common.{◌≡◌, ℕ, zero, suc, ◌≤◌, List, [], ◌∷◌, ◌++◌, length, take, refl, sym, ap, ◌∙◌, arith}
use Rattle.std.proofs.lemmas.List.{length-take-le, take-append-le, take-take}
use Rattle.mtc_reader.specs.declared.event.MtcEvent.{MtcEvent}
use Rattle.mtc_reader.specs.declared.reader.MtcReader.{MtcReader}
use Rattle.mtc_reader.specs.Events.{events_in}
use Rattle.mtc_reader.specs.StandsFor.{StandsFor}
use Rattle.tc_c.specs.CMtc.{HasTold}

-- it was given more bytes, with their events
pub told_on : (old new : MtcReader) (bytes : List ℕ) (own : List MtcEvent)
    → ((front : List ℕ) → StandsFor old front → StandsFor new (front ++ bytes))
    → ((front : List ℕ) → StandsFor old front → events_in (front ++ bytes) ≡ events_in front ++ own)
    → (front : List ℕ) (given : List MtcEvent) → HasTold old front given → HasTold new (front ++ bytes) (given ++ own)
told_on old new bytes own stands gives = λ front given h.
    (stands front h.0, ap (λ (l : List MtcEvent). l ++ own) h.1 ∙ sym (gives front h.0))

-- the front of a front
pub front_of_front : (n most : ℕ) (s : List ℕ) → n ≤ length (take most s) → take n (take most s) ≡ take n s
front_of_front zero most s less = refl
front_of_front (suc n) zero s less = absurd (omega (arith, less))
front_of_front (suc n) (suc most) [] less = refl
front_of_front (suc n) (suc most) (x ∷ s) less =
    ap (λ (l : List ℕ). x ∷ l) (front_of_front n most s (omega (arith, less)))

-- what was copied stands in front
pub front_is : (n : ℕ) (copied rest room : List ℕ) → copied ≡ take n room → n ≤ length room
    → take n (copied ++ rest) ≡ take n room
front_is n copied rest room is within =
    rw is (let long = length-take-le n room within in
    take-append-le n (take n room) rest (omega (arith, long)) ∙ take-take n n room (omega arith))
