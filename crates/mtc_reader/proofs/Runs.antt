-- A full message and then pairs of frames, eight quarter frames each, are read pair by pair, whatever bytes came
-- before. It is said once of both directions: between two pairs no window has its pieces in order.
use Rattle.std.proofs.Common.{◌≡◌, ◌<◌, ℕ, ◌+◌, ◌*◌, List, [], ◌∷◌, ◌++◌, length, slice_index, take}
use Rattle.std.proofs.Common.{Some}
use Rattle.std.proofs.Common.{refl, sym, ◌∙◌, ap, subst, append_assoc, append-nil, arith}
use Rattle.std.specs.Prelude.{reverse}
use Rattle.std.specs.List.{flat_map}
use Rattle.std.proofs.lemmas.Bool.{cond-true}
use Rattle.tc_address.specs.Label.{Address, IsLabel, is_label}
use Rattle.tc_address.specs.LabelLemmas.{label_is}
use Rattle.tc_address.specs.declared.direction.Direction.{Direction}
use Rattle.tc_address.specs.declared.direction.Direction.TheVariants.{Forward, Backward}
use Rattle.mtc_reader.specs.declared.event.MtcEvent.{MtcEvent}
use Rattle.mtc_reader.specs.declared.event.MtcEvent.TheVariants.{Full, Quarter, RefusedFull, RefusedQuarter}
use Rattle.mtc_reader.specs.declared.message.MessageKind.TheVariants as kinds
use Rattle.mtc_reader.specs.declared.message.Message.{Message}
use Rattle.mtc_reader.specs.declared.message.Message.TheVariants.{FullMessage}
use Rattle.mtc_reader.specs.Events.{events_in, fault_of, full_event, latest_eight, piece_of}
use Rattle.mtc_reader.specs.Events.{quarter_address, quarter_event, row_in, window_event}
use Rattle.mtc_reader.specs.Laws.{code_of, full_message, numbers_of, quarter_events, quarters, run_events, AreLabels}
use Rattle.mtc_reader.specs.Messages.{Current, current_in, messages_in, without_real_time}
use Rattle.mtc_reader.specs.StandsFor.{events_of, padded}
use Rattle.mtc_reader.proofs.AlongTheBytes.{all_along, along, events_along}
use Rattle.mtc_reader.proofs.ReadBack.{address_back, code_below, falling_window, frames_below, full_back}
use Rattle.mtc_reader.proofs.ReadBack.{full_step, on, rising_window, row_is, IsRow}
use Rattle.mtc_reader.proofs.SlidingWindow.{numbers_along, current_behind, ends_behind, first_none, given, inner_given}
use Rattle.mtc_reader.proofs.SlidingWindow.{inner_of}
use Rattle.mtc_reader.proofs.SlidingWindow.{long, messages_behind, number_of, place_behind, replaced, slid, slid_long}
use Rattle.mtc_reader.proofs.SlidingWindow.{window_behind, AreInner, AreNumbers, EndsIn, IsInner}
use Rattle.mtc_reader.proofs.SlidingWindow.{eight_numbers, four_numbers, six_inner, three_inner}

-- ---- a pair of frames, and half of one

-- the second one of the eight in which the messages end has such a piece, so what comes begins anew
pub record Ready (messages : List Message) : Type 0 where
  pub window : List ℕ
  pub ends : EndsIn messages window
  pub second : IsInner (piece_of (slice_index window 1))

empty_ready : (messages : List Message) → row_in messages ≡ [] → Ready messages
empty_ready messages is = record {
  window = padded [];
  ends = ap (λ (row : List ℕ). latest_eight (padded row)) is;
  second = ((λ e. absurd (omega (arith, e))), (λ e. absurd (omega (arith, e))));
}

-- eight quarter frames; those between the first and the last have such pieces
pub record IsPair (sent : List ℕ) : Type 0 where
  pub a : ℕ
  pub b : ℕ
  pub c : ℕ
  pub d : ℕ
  pub e : ℕ
  pub f : ℕ
  pub g : ℕ
  pub h : ℕ
  pub are : sent ≡ a ∷ b ∷ c ∷ d ∷ e ∷ f ∷ g ∷ h ∷ []
  pub numbers : AreNumbers (a ∷ b ∷ c ∷ d ∷ e ∷ f ∷ g ∷ h ∷ [])
  pub inner : AreInner (b ∷ c ∷ d ∷ e ∷ f ∷ g ∷ [])

-- what comes behind them begins anew
ready_behind : (messages : List Message) (sent : List ℕ) → IsPair sent → Ready messages
    → Ready (messages_behind messages sent)
ready_behind messages sent p ready =
    let numbers = p.a ∷ p.b ∷ p.c ∷ p.d ∷ p.e ∷ p.f ∷ p.g ∷ p.h ∷ [] in
    subst (λ (l : List ℕ). Ready (messages_behind messages l)) (sym p.are) (record {
      window = numbers;
      ends = ends_behind numbers messages ready.window ready.ends
          ∙ replaced ready.window p.a p.b p.c p.d p.e p.f p.g p.h (long messages ready.window ready.ends);
      second = p.inner.0;
    })

-- the last one gives what all of them carry
eight_given : (place : ℕ) (window : List ℕ) (a b c d e f g h : ℕ) → length window ≡ 8
    → IsInner (piece_of (slice_index window 1)) → AreInner (b ∷ c ∷ d ∷ e ∷ f ∷ g ∷ [])
    → given place window (a ∷ b ∷ c ∷ d ∷ e ∷ f ∷ g ∷ h ∷ [])
    ≡ events_of (window_event (a ∷ b ∷ c ∷ d ∷ e ∷ f ∷ g ∷ h ∷ []) (place + 15))
eight_given place window a b c d e f g h eights second inner =
    let numbers = a ∷ b ∷ c ∷ d ∷ e ∷ f ∷ g ∷ h ∷ [] in
    let last = place_behind place (a ∷ b ∷ c ∷ d ∷ e ∷ f ∷ g ∷ []) + 1 in
    ap (λ o. events_of o ++ given (on place) (slid window a) (b ∷ c ∷ d ∷ e ∷ f ∷ g ∷ h ∷ []))
    (first_none (place + 1) window a eights second)
    ∙ inner_given (b ∷ c ∷ d ∷ e ∷ f ∷ g ∷ []) (h ∷ []) (on place) (slid window a) (slid_long window a eights) inner
    ∙ append-nil (events_of (window_event (window_behind window numbers) last))
    ∙ ap (λ (w : List ℕ). events_of (window_event w last)) (replaced window a b c d e f g h eights)
    ∙ ap (λ (n : ℕ). events_of (window_event numbers n)) (omega arith)

pair_along : (place : ℕ) (current : Current) (messages : List Message) (sent more : List ℕ) → IsPair sent
    → Ready messages
    → events_along place current messages (quarters sent ++ more)
    ≡ events_of (window_event sent (place + 15)) ++ events_along (place_behind place sent) (current_behind current sent)
    (messages_behind messages sent) more
pair_along place current messages sent more p ready =
    let numbers = p.a ∷ p.b ∷ p.c ∷ p.d ∷ p.e ∷ p.f ∷ p.g ∷ p.h ∷ [] in
    let behind = λ (l : List ℕ).
    events_along (place_behind place l) (current_behind current l) (messages_behind messages l) more in
    subst (λ (l : List ℕ). events_along place current messages (quarters l ++ more)
    ≡ events_of (window_event l (place + 15)) ++ behind l) (sym p.are)
    (numbers_along numbers more place current messages ready.window p.numbers ready.ends
    ∙ ap (λ (es : List MtcEvent). es ++ behind numbers)
    (eight_given place ready.window p.a p.b p.c p.d p.e p.f p.g p.h (long messages ready.window ready.ends)
    ready.second p.inner))

-- the first four give nothing
half_along : (place : ℕ) (current : Current) (messages : List Message) (sent : List ℕ) → IsPair sent → Ready messages
    → events_along place current messages (quarters (take 4 sent)) ≡ []
half_along place current messages sent p ready =
    let eights = long messages ready.window ready.ends in
    let n = p.numbers in
    let i = p.inner in
    let four = p.a ∷ p.b ∷ p.c ∷ p.d ∷ [] in
    let inner = p.b ∷ p.c ∷ p.d ∷ [] in
    let are = four_numbers p.a p.b p.c p.d n.0 n.1.0 n.1.1.0 n.1.1.1.0 in
    let are_inner = three_inner p.b p.c p.d i.0 i.1.0 i.1.1.0 in
    subst (λ (l : List ℕ). events_along place current messages (quarters (take 4 l)) ≡ []) (sym p.are)
    (numbers_along four [] place current messages ready.window are ready.ends
    ∙ append-nil (given place ready.window four)
    ∙ ap (λ o. events_of o ++ given (on place) (slid ready.window p.a) inner)
    (first_none (place + 1) ready.window p.a eights ready.second)
    ∙ inner_given inner [] (on place) (slid ready.window p.a) (slid_long ready.window p.a eights) are_inner)

-- ---- a label, in either direction

pub rising_numbers : (a b c d e f g h : ℕ) → IsRow a b c d e f g h
    → AreNumbers (a ∷ b ∷ c ∷ d ∷ e ∷ f ∷ g ∷ h ∷ [])
rising_numbers a b c d e f g h row =
    eight_numbers a b c d e f g h (number_of 0 a row.first) (number_of 1 b row.second) (number_of 2 c row.third)
    (number_of 3 d row.fourth) (number_of 4 e row.fifth) (number_of 5 f row.sixth) (number_of 6 g row.seventh)
    (number_of 7 h row.eighth)

pub rising_inner : (a b c d e f g h : ℕ) → IsRow a b c d e f g h → AreInner (b ∷ c ∷ d ∷ e ∷ f ∷ g ∷ [])
rising_inner a b c d e f g h row =
    six_inner b c d e f g (inner_of 1 b (omega arith) (omega arith) row.second)
    (inner_of 2 c (omega arith) (omega arith) row.third) (inner_of 3 d (omega arith) (omega arith) row.fourth)
    (inner_of 4 e (omega arith) (omega arith) row.fifth) (inner_of 5 f (omega arith) (omega arith) row.sixth)
    (inner_of 6 g (omega arith) (omega arith) row.seventh)

rising_pair : (a b c d e f g h : ℕ) → IsRow a b c d e f g h → IsPair (a ∷ b ∷ c ∷ d ∷ e ∷ f ∷ g ∷ h ∷ [])
rising_pair a b c d e f g h row = record {
  a = a;
  b = b;
  c = c;
  d = d;
  e = e;
  f = f;
  g = g;
  h = h;
  are = refl;
  numbers = rising_numbers a b c d e f g h row;
  inner = rising_inner a b c d e f g h row;
}

falling_pair : (a b c d e f g h : ℕ) → IsRow a b c d e f g h → IsPair (h ∷ g ∷ f ∷ e ∷ d ∷ c ∷ b ∷ a ∷ [])
falling_pair a b c d e f g h row =
    let n = rising_numbers a b c d e f g h row in
    let i = rising_inner a b c d e f g h row in
    record {
      a = h;
      b = g;
      c = f;
      d = e;
      e = d;
      f = c;
      g = b;
      h = a;
      are = refl;
      numbers = eight_numbers h g f e d c b a n.1.1.1.1.1.1.1.0 n.1.1.1.1.1.1.0 n.1.1.1.1.1.0 n.1.1.1.1.0 n.1.1.1.0
          n.1.1.0 n.1.0 n.0;
      inner = six_inner g f e d c b i.1.1.1.1.1.0 i.1.1.1.1.0 i.1.1.1.0 i.1.1.0 i.1.0 i.0;
    }

-- the data bytes with which a label is sent, in a direction: a pair of frames that carries it
pub record IsSent (direction : Direction) (sent : Address → List ℕ) : Type 0 where
  pub pair : (a : Address) → IsLabel a → IsPair (sent a)
  pub carries : (place : ℕ) (a : Address) → IsLabel a
      → window_event (sent a) place ≡ Some (quarter_event direction (quarter_address (numbers_of a)) place)

pub forward_sent : IsSent Forward numbers_of
forward_sent = record {
  pair = λ a l. rising_pair _ _ _ _ _ _ _ _ (row_is a l);
  carries = λ place a l. rising_window place _ _ _ _ _ _ _ _ (row_is a l);
}

pub backward_sent : IsSent Backward (λ a. reverse (numbers_of a))
backward_sent = record {
  pair = λ a l. falling_pair _ _ _ _ _ _ _ _ (row_is a l);
  carries = λ place a l. falling_window place _ _ _ _ _ _ _ _ (row_is a l);
}

-- they give the label
label_given : (direction : Direction) (sent : Address → List ℕ) → IsSent direction sent → (a : Address) (place : ℕ)
    → IsLabel a → events_of (window_event (sent a) place) ≡ Quarter direction a place ∷ []
label_given direction sent is a place l =
    ap events_of (is.carries place a l) ∙ ap (λ b. quarter_event direction b place ∷ []) (address_back a l)
    ∙ ap (λ (event : MtcEvent). event ∷ [])
    (cond-true (is_label a) (Quarter direction a place) (RefusedQuarter direction (fault_of a) place) (label_is a l))

-- alone, they are given at their last byte
pub label_back : (direction : Direction) (sent : Address → List ℕ) → IsSent direction sent → (a : Address) → IsLabel a
    → events_in (quarters (sent a)) ≡ Quarter direction a 15 ∷ []
label_back direction sent is a l =
    ap events_in (sym (append-nil (quarters (sent a)))) ∙ all_along (quarters (sent a) ++ [])
    ∙ pair_along 0 (current_in []) [] (sent a) [] (is.pair a l) (empty_ready [] refl)
    ∙ append-nil (events_of (window_event (sent a) 15)) ∙ label_given direction sent is a 15 l

-- ---- a run

abbrev all_sent : (Address → List ℕ) → List Address → List ℕ
all_sent sent labels = flat_map (λ a. quarters (sent a)) labels

-- a pair is sixteen bytes
behind_pair : (place : ℕ) (sent : List ℕ) → IsPair sent → place_behind place sent ≡ place + 16
behind_pair place sent p = subst (λ (l : List ℕ). place_behind place l ≡ place + 16) (sym p.are) (omega arith)

-- pair after pair, and then whatever gives nothing
run_along : (direction : Direction) (sent : Address → List ℕ) → IsSent direction sent
    → (labels : List Address) (tail : List ℕ) (place : ℕ) (current : Current) (messages : List Message)
    → AreLabels labels → Ready messages
    → ((p : ℕ) (c : Current) (ms : List Message) → Ready ms → events_along p c ms tail ≡ [])
    → events_along place current messages (all_sent sent labels ++ tail) ≡ quarter_events place direction labels
run_along direction sent is [] tail place current messages are ready none = none place current messages ready
run_along direction sent is (a ∷ labels) tail place current messages are ready none =
    let pair = is.pair a are.0 in
    let more = all_sent sent labels ++ tail in
    let behind = events_along (place_behind place (sent a)) (current_behind current (sent a))
    (messages_behind messages (sent a)) more in
    ap (λ bytes. events_along place current messages bytes)
    (append_assoc (quarters (sent a)) (all_sent sent labels) tail)
    ∙ pair_along place current messages (sent a) more pair ready
    ∙ ap (λ (es : List MtcEvent). es ++ behind) (label_given direction sent is a (place + 15) are.0)
    ∙ ap (λ (events : List MtcEvent). Quarter direction a (place + 15) ∷ events)
    (run_along direction sent is labels tail _ _ _ are.1 (ready_behind messages (sent a) pair ready) none
    ∙ ap (λ (p : ℕ). quarter_events p direction labels) (behind_pair place (sent a) pair))

-- a full message is read from any state
full_along : (place : ℕ) (current : Current) (messages : List Message) (device : ℕ) (a : Address) (more : List ℕ)
    → device < 0x80 → IsLabel a
    → events_along place current messages (full_message device a ++ more)
    ≡ Full a (place + 9) ∷ events_along (place + 10) (record { kind = kinds.Other; numbers = [] })
    (FullMessage (32 * code_of a.count + a.hours) a.minutes a.seconds a.frames ∷ messages) more
full_along place current messages device a more small l =
    let hours : 32 * code_of a.count + a.hours < 0x80 = omega (arith, l.hours, code_below a.count) in
    let later = events_along (place + 10) (record { kind = kinds.Other; numbers = [] })
    (FullMessage (32 * code_of a.count + a.hours) a.minutes a.seconds a.frames ∷ messages) more in
    full_step place current messages device (32 * code_of a.count + a.hours) a.minutes a.seconds a.frames more small
    hours (omega (arith, l.minutes)) (omega (arith, l.seconds)) (omega (arith, frames_below a l))
    ∙ ap (λ b. full_event b (place + 9) ∷ later) (full_back a l)
    ∙ ap (λ event. event ∷ later)
    (cond-true (is_label a) (Full a (place + 9)) (RefusedFull (fault_of a) (place + 9)) (label_is a l))

-- and what comes after it, after whatever bytes, is read on its own
run_after : (direction : Direction) (sent : Address → List ℕ) → IsSent direction sent
    → (before : List ℕ) (device : ℕ) (first : Address) (labels : List Address) (tail : List ℕ)
    → device < 0x80 → IsLabel first → AreLabels labels
    → ((p : ℕ) (c : Current) (ms : List Message) → Ready ms → events_along p c ms tail ≡ [])
    → events_in (before ++ (full_message device first ++ (all_sent sent labels ++ tail)))
    ≡ events_in before ++ run_events (length before) direction first labels
run_after direction sent is before device first labels tail small l are none =
    let pairs = all_sent sent labels ++ tail in
    let bytes = full_message device first ++ pairs in
    let sounding = without_real_time (reverse before) in
    let earlier = messages_in sounding in
    let full = FullMessage (32 * code_of first.count + first.hours) first.minutes first.seconds first.frames in
    along before bytes
    ∙ ap (λ (es : List MtcEvent). events_in before ++ es)
    (full_along (length before) (current_in sounding) earlier device first pairs small l
    ∙ ap (λ (es : List MtcEvent). Full first (length before + 9) ∷ es)
    (run_along direction sent is labels tail _ _ (full ∷ earlier) are (empty_ready (full ∷ earlier) refl) none))

-- with nothing behind it
pub whole_after : (direction : Direction) (sent : Address → List ℕ) → IsSent direction sent
    → (before : List ℕ) (device : ℕ) (first : Address) (labels : List Address)
    → device < 0x80 → IsLabel first → AreLabels labels
    → events_in (before ++ (full_message device first ++ all_sent sent labels))
    ≡ events_in before ++ run_events (length before) direction first labels
whole_after direction sent is before device first labels small l are =
    ap (λ (pairs : List ℕ). events_in (before ++ (full_message device first ++ pairs)))
    (sym (append-nil (all_sent sent labels)))
    ∙ run_after direction sent is before device first labels [] small l are (λ p c ms ready. refl)

-- with half a pair behind it
pub half_after : (direction : Direction) (sent : Address → List ℕ) → IsSent direction sent
    → (before : List ℕ) (device : ℕ) (first : Address) (labels : List Address) (half : Address)
    → device < 0x80 → IsLabel first → AreLabels labels → IsLabel half
    → events_in (before ++ (full_message device first ++ (all_sent sent labels ++ quarters (take 4 (sent half)))))
    ≡ events_in before ++ run_events (length before) direction first labels
half_after direction sent is before device first labels half small l are h =
    run_after direction sent is before device first labels (quarters (take 4 (sent half))) small l are
    (λ p c ms ready. half_along p c ms (sent half) (is.pair half h) ready)
