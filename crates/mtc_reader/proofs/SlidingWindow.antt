-- Quarter frames, one after another: each moves a window of eight on by one, and gives what the window carries then.
-- One whose piece neither begins nor ends eight gives nothing, and neither does one behind eight whose second one has
-- such a piece.
use Rattle.std.proofs.Common.{◌≡◌, ◌≢◌, ◌<◌, ℕ, ◌+◌, List, [], ◌∷◌, ◌++◌, length, slice_index, None, refl, sym, ◌∙◌, ap}
use Rattle.std.proofs.Common.{arith}
use Rattle.std.proofs.Common.{append_assoc}
use Rattle.std.specs.List.{remove, AllByRecursion}
use Rattle.lemmas.specs.Lists.{also}
use Rattle.mtc_reader.specs.declared.event.MtcEvent.{MtcEvent}
use Rattle.mtc_reader.specs.declared.message.Message.{Message}
use Rattle.mtc_reader.specs.declared.message.Message.TheVariants.{QuarterFrame}
use Rattle.mtc_reader.specs.Events.{latest_eight, piece_of, row_in, window_event}
use Rattle.mtc_reader.specs.Laws.{quarters}
use Rattle.mtc_reader.specs.Messages.{Current}
use Rattle.mtc_reader.specs.StandsFor.{events_of, padded}
use Rattle.mtc_reader.proofs.AlongTheBytes.{events_along}
use Rattle.mtc_reader.proofs.LatestEight.{another_first, another_piece, eight, latest_eight-full, padded_event}
use Rattle.mtc_reader.proofs.LatestEight.{padded_full}
use Rattle.mtc_reader.proofs.ReadBack.{after, on, quarter_step, IsNumber, IsQuarter}

-- ---- quarter frames, one after another

-- what a window becomes when one more comes
abbrev pub slid : List ℕ → ℕ → List ℕ
slid window number = remove window 0 ++ number ∷ []

-- and behind all of them
abbrev pub window_behind : List ℕ → List ℕ → List ℕ
window_behind window [] = window
window_behind window (number ∷ more) = window_behind (slid window number) more

-- where they end, and what is there
abbrev pub place_behind : ℕ → List ℕ → ℕ
place_behind place [] = place
place_behind place (number ∷ more) = place_behind (on place) more

abbrev pub current_behind : Current → List ℕ → Current
current_behind current [] = current
current_behind current (number ∷ more) = current_behind (after number) more

abbrev pub messages_behind : List Message → List ℕ → List Message
messages_behind messages [] = messages
messages_behind messages (number ∷ more) = messages_behind (QuarterFrame number ∷ messages) more

-- the events that they give behind a window
abbrev pub given : ℕ → List ℕ → List ℕ → List MtcEvent
given place window [] = []
given place window (number ∷ more) =
    events_of (window_event (slid window number) (place + 1)) ++ given (on place) (slid window number) more

-- the data bytes of quarter frames
abbrev pub AreNumbers : List ℕ → Type 0
AreNumbers numbers = AllByRecursion IsNumber numbers

-- the row of the messages ends in these eight, with what stands for quarter frames that did not come
abbrev pub EndsIn : List Message → List ℕ → Type 0
EndsIn messages window = latest_eight (padded (row_in messages)) ≡ window

pub long : (messages : List Message) (window : List ℕ) → EndsIn messages window → length window ≡ 8
long messages window ends = ap length (sym ends) ∙ padded_full (row_in messages)

pub ends_next : (messages : List Message) (window : List ℕ) (number : ℕ) → EndsIn messages window
    → EndsIn (QuarterFrame number ∷ messages) (slid window number)
ends_next messages window number ends =
    sym (latest_eight-full (padded (row_in messages)) number (padded_full (row_in messages)))
    ∙ ap (λ (w : List ℕ). slid w number) ends

pub ends_behind : (numbers : List ℕ) (messages : List Message) (window : List ℕ) → EndsIn messages window
    → EndsIn (messages_behind messages numbers) (window_behind window numbers)
ends_behind [] messages window ends = ends
ends_behind (number ∷ more) messages window ends =
    ends_behind more (QuarterFrame number ∷ messages) (slid window number) (ends_next messages window number ends)

one_along : (place : ℕ) (current : Current) (messages : List Message) (window : List ℕ) (number : ℕ) (more : List ℕ)
    → IsNumber number → EndsIn messages window
    → events_along place current messages (0xf1 ∷ number ∷ more)
    ≡ events_of (window_event (slid window number) (place + 1))
    ++ events_along (on place) (after number) (QuarterFrame number ∷ messages) more
one_along place current messages window number more is ends =
    quarter_step place current messages number more is.0 is.1
    ∙ ap (λ o. events_of o ++ events_along (on place) (after number) (QuarterFrame number ∷ messages) more)
    (sym (padded_event (row_in messages ++ number ∷ []) (place + 1))
    ∙ ap (λ (w : List ℕ). window_event w (place + 1)) (ends_next messages window number ends))

-- each gives what its window gives
pub numbers_along : (numbers more : List ℕ) (place : ℕ) (current : Current) (messages : List Message) (window : List ℕ)
    → AreNumbers numbers → EndsIn messages window
    → events_along place current messages (quarters numbers ++ more)
    ≡ given place window numbers ++ events_along (place_behind place numbers) (current_behind current numbers)
    (messages_behind messages numbers) more
numbers_along [] more place current messages window are ends = refl
numbers_along (number ∷ numbers) more place current messages window are ends =
    let now = events_of (window_event (slid window number) (place + 1)) in
    let next = slid window number in
    one_along place current messages window number (quarters numbers ++ more) are.0 ends
    ∙ ap (λ (es : List MtcEvent). now ++ es) (numbers_along numbers more (on place) (after number)
    (QuarterFrame number ∷ messages) next are.1 (ends_next messages window number ends))
    ∙ sym (append_assoc now (given (on place) next numbers) (events_along (place_behind (on place) numbers)
    (current_behind (after number) numbers) (messages_behind (QuarterFrame number ∷ messages) numbers) more))

-- ---- which of them give nothing

-- a piece that neither begins nor ends eight
abbrev pub IsInner : ℕ → Type 0
IsInner piece = (piece ≢ 0) × (piece ≢ 7)

abbrev pub AreInner : List ℕ → Type 0
AreInner numbers = AllByRecursion (λ number. IsInner (piece_of number)) numbers

pub slid_long : (window : List ℕ) (number : ℕ) → length window ≡ 8 → length (slid window number) ≡ 8
slid_long window number eights = ap (λ (w : List ℕ). length (slid w number)) (eight window eights)

-- one with such a piece, in the middle of eight
inner_none : (place : ℕ) (window : List ℕ) (number : ℕ) → length window ≡ 8 → IsInner (piece_of number)
    → window_event (slid window number) place ≡ None
inner_none place window number eights inner =
    let last : slice_index (slid window number) 7 ≡ number =
    ap (λ (w : List ℕ). slice_index (slid w number) 7) (eight window eights) in
    let piece = ap piece_of last in
    another_piece (slid window number) place (λ e. inner.0 (sym piece ∙ e)) (λ e. inner.1 (sym piece ∙ e))

-- one behind eight whose second one has such a piece
pub first_none : (place : ℕ) (window : List ℕ) (number : ℕ) → length window ≡ 8
    → IsInner (piece_of (slice_index window 1))
    → window_event (slid window number) place ≡ None
first_none place window number eights inner =
    let first : slice_index (slid window number) 0 ≡ slice_index window 1 =
    ap (λ (w : List ℕ). slice_index (slid w number) 0) (eight window eights) in
    let piece = ap piece_of first in
    another_first (slid window number) place (λ e. inner.0 (sym piece ∙ e)) (λ e. inner.1 (sym piece ∙ e))

pub inner_given : (numbers more : List ℕ) (place : ℕ) (window : List ℕ) → length window ≡ 8 → AreInner numbers
    → given place window (numbers ++ more) ≡ given (place_behind place numbers) (window_behind window numbers) more
inner_given [] more place window eights inner = refl
inner_given (number ∷ numbers) more place window eights inner =
    ap (λ o. events_of o ++ given (on place) (slid window number) (numbers ++ more))
    (inner_none (place + 1) window number eights inner.0)
    ∙ inner_given numbers more (on place) (slid window number) (slid_long window number eights) inner.1

-- eight replace all of a window
pub replaced : (window : List ℕ) (a b c d e f g h : ℕ) → length window ≡ 8
    → window_behind window (a ∷ b ∷ c ∷ d ∷ e ∷ f ∷ g ∷ h ∷ []) ≡ a ∷ b ∷ c ∷ d ∷ e ∷ f ∷ g ∷ h ∷ []
replaced window a b c d e f g h eights =
    ap (λ (w : List ℕ). window_behind w (a ∷ b ∷ c ∷ d ∷ e ∷ f ∷ g ∷ h ∷ [])) (eight window eights)

-- ---- quarter frames of a piece

pub number_of : (piece number : ℕ) → IsQuarter piece number → IsNumber number
number_of piece number is = (is.is_data_byte, is.is_no_real_time)

pub inner_of : (piece number : ℕ) → 0 < piece → piece < 7 → IsQuarter piece number → IsInner (piece_of number)
inner_of piece number low high is =
    ((λ e. absurd (omega (arith, low, is.is_piece, e))), (λ e. absurd (omega (arith, high, is.is_piece, e))))

-- ---- eight of them, and six

pub four_numbers : (a b c d : ℕ) → IsNumber a → IsNumber b → IsNumber c → IsNumber d → AreNumbers (a ∷ b ∷ c ∷ d ∷ [])
four_numbers a b c d one two three four = also one (also two (also three (also four tt)))

pub eight_numbers : (a b c d e f g h : ℕ) → IsNumber a → IsNumber b → IsNumber c → IsNumber d → IsNumber e → IsNumber f
    → IsNumber g → IsNumber h → AreNumbers (a ∷ b ∷ c ∷ d ∷ e ∷ f ∷ g ∷ h ∷ [])
eight_numbers a b c d e f g h one two three four five six seven eighth =
    also one (also two (also three (also four (also five (also six (also seven (also eighth tt)))))))

pub three_inner : (a b c : ℕ) → IsInner (piece_of a) → IsInner (piece_of b) → IsInner (piece_of c)
    → AreInner (a ∷ b ∷ c ∷ [])
three_inner a b c one two three = also one (also two (also three tt))

pub six_inner : (a b c d e f : ℕ) → IsInner (piece_of a) → IsInner (piece_of b) → IsInner (piece_of c)
    → IsInner (piece_of d) → IsInner (piece_of e) → IsInner (piece_of f) → AreInner (a ∷ b ∷ c ∷ d ∷ e ∷ f ∷ [])
six_inner a b c d e f one two three four five six =
    also one (also two (also three (also four (also five (also six tt)))))
