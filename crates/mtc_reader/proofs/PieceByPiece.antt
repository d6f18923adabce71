-- Bytes that are taken piece by piece are taken as a whole.
use Rattle.std.proofs.Common.{◌≡◌, ◌≤◌, ℕ, ◌+◌, ◌-◌, false, get_or, List, [], ◌∷◌, ◌++◌, length, take, drop, Option}
use Rattle.std.proofs.Common.{Some, None, refl, sym, ◌∙◌, ap}
use Rattle.std.proofs.Common.{subst, append_assoc, append-nil, arith}
use Rattle.std.specs.Prelude.{is_some}
use Rattle.std.proofs.lemmas.List.{take_more}
use Rattle.lemmas.specs.Lists.{cut_more}
use Rattle.mtc_reader.specs.declared.event.MtcEvent.{MtcEvent}
use Rattle.mtc_reader.specs.declared.reader.MtcReader.{MtcReader}
use Rattle.mtc_reader.specs.Events.{events_in}
use Rattle.mtc_reader.specs.StandsFor.{StandsFor, events_of}

-- what bytes lead to, and what they give
abbrev pub Gives : MtcReader → MtcReader → List ℕ → Option MtcEvent → Type 0
Gives old new bytes event =
    (front : List ℕ) → StandsFor old front → StandsFor new (front ++ bytes)
    × (events_in (front ++ bytes) ≡ events_in front ++ events_of event)

-- they give nothing
abbrev pub Passes : MtcReader → MtcReader → List ℕ → Type 0
Passes old new bytes = (front : List ℕ) → StandsFor old front
    → StandsFor new (front ++ bytes) × (events_in (front ++ bytes) ≡ events_in front)

pub nothing_yet : (reader : MtcReader) → Passes reader reader []
nothing_yet reader = λ front stands.
    (subst (λ (l : List ℕ). StandsFor reader l) (sym (append-nil front)) stands, ap events_in (append-nil front))

pub passes_on : (old mid new : MtcReader) (a b : List ℕ) → Passes old mid a → Passes mid new b → Passes old new (a ++ b)
passes_on old mid new a b first second = λ front stands.
    let one = first front stands in
    let two = second (front ++ a) one.0 in
    let joined = append_assoc front a b in
    (subst (λ (l : List ℕ). StandsFor new l) joined two.0, ap events_in (sym joined) ∙ two.1 ∙ one.1)

pub gives_then : (old mid new : MtcReader) (a b : List ℕ) (event : Option MtcEvent) → Passes old mid a
    → Gives mid new b event → Gives old new (a ++ b) event
gives_then old mid new a b event first second = λ front stands.
    let one = first front stands in
    let two = second (front ++ a) one.0 in
    let joined = append_assoc front a b in (
      subst (λ (l : List ℕ). StandsFor new l) joined two.0,
      ap events_in (sym joined) ∙ two.1
          ∙ ap (λ (es : List MtcEvent). es ++ events_of event) one.1,
    )

pub passes_none : (old new : MtcReader) (bytes : List ℕ) (event : Option MtcEvent) → event ≡ None
    → Gives old new bytes event → Passes old new bytes
passes_none old new bytes event none gives = λ front stands.
    let is = gives front stands in
    (is.0, is.1 ∙ ap (λ (e : Option MtcEvent). events_in front ++ events_of e) none ∙ append-nil (events_in front))

pub no_event : (event : Option MtcEvent) → is_some event ≡ false → event ≡ None
no_event None is = refl
no_event (Some event) is = cc

-- two bytes more
pub two_more : (at : ℕ) (bytes : List ℕ) → at + 2 ≤ length bytes
    → take at bytes ++ get_or bytes at 0 ∷ get_or bytes (at + 1) 0 ∷ [] ≡ take (at + 2) bytes
two_more at bytes within =
    let first = take_more bytes at 0 (omega (arith, within)) in
    let second = take_more bytes (at + 1) 0 (omega (arith, within)) in
    sym (append_assoc (take at bytes) (get_or bytes at 0 ∷ []) (get_or bytes (at + 1) 0 ∷ []))
    ∙ ap (λ (l : List ℕ). l ++ get_or bytes (at + 1) 0 ∷ []) (sym first) ∙ sym second
    ∙ ap (λ n. take n bytes) (omega arith)

-- the rest of bytes, from a place on
abbrev pub rest_of : ℕ → List ℕ → List ℕ
rest_of at bytes = take (length bytes - at) (drop at bytes)

-- bytes that give nothing, some more of the rest, and then those of an event or none
pub behind_passed : (old mid later new : MtcReader) (at n m : ℕ) (bytes : List ℕ) (event : Option MtcEvent)
    → Passes old mid (take at bytes)
    → ((front : List ℕ) → StandsFor mid front → StandsFor later (front ++ take n (rest_of at bytes)))
    → ((front : List ℕ) → StandsFor mid front → events_in (front ++ take n (rest_of at bytes)) ≡ events_in front)
    → ((front : List ℕ) → StandsFor later front → StandsFor new (front ++ take m (rest_of (at + n) bytes)))
    → ((front : List ℕ) → StandsFor later front → events_in (front ++ take m (rest_of (at + n) bytes)) ≡ events_in front
    ++ events_of event)
    → Gives old new (take (at + n + m) bytes) event
behind_passed old mid later new at n m bytes event first stands none more gives =
    let passed = passes_on old mid later (take at bytes) _ first (λ front is. (stands front is, none front is)) in
    subst (λ (l : List ℕ). Gives old new l event)
    (ap (λ (l : List ℕ). l ++ take m (rest_of (at + n) bytes)) (cut_more at n bytes) ∙ cut_more (at + n) m bytes)
    (gives_then old later new _ (take m (rest_of (at + n) bytes)) event passed
    (λ front is. (more front is, gives front is)))

-- the rest gives nothing either
pub passes_rest : (old mid new : MtcReader) (at n : ℕ) (bytes : List ℕ) → Passes old mid (take at bytes)
    → ((front : List ℕ) → StandsFor mid front → StandsFor new (front ++ take n (rest_of at bytes)))
    → ((front : List ℕ) → StandsFor mid front → events_in (front ++ take n (rest_of at bytes)) ≡ events_in front)
    → Passes old new (take (at + n) bytes)
passes_rest old mid new at n bytes passes stands none =
    let rest = take n (rest_of at bytes) in
    let both : Passes old new (take at bytes ++ rest) =
    passes_on old mid new (take at bytes) rest passes (λ front is. (stands front is, none front is)) in
    subst (λ (l : List ℕ). Passes old new l) (cut_more at n bytes) both
