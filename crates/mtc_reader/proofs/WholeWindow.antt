-- Eight quarter frames whose pieces rise give one event, whatever row they come after: the first one may end a row that
-- falls, and if it does not, only the last one carries anything.
use Rattle.std.proofs.Common.{◌≡◌, ◌<◌, ℕ, ◌+◌, true, None, List, [], ◌∷◌, ◌++◌, length, map, slice_index}
use Rattle.std.proofs.Common.{refl, sym, ◌∙◌, ap, subst, arith}
use Rattle.std.proofs.Common.{append-nil, length-append}
use Rattle.std.specs.Prelude.{reverse}
use Rattle.std.specs.Str.{bytes_eq}
use Rattle.std.proofs.lemmas.List.{reverse-append}
use Rattle.std.proofs.lemmas.Slice.Eq.{bytes_eq-Decides}
use Rattle.tc_address.specs.declared.direction.Direction.TheVariants.{Forward}
use Rattle.mtc_reader.specs.declared.event.MtcEvent.{MtcEvent}
use Rattle.mtc_reader.specs.declared.message.Message.{Message}
use Rattle.mtc_reader.specs.declared.reader.MtcReader.{MtcReader}
use Rattle.mtc_reader.specs.Events.{events_in, latest_eight, piece_of, pieces, quarter_address, quarter_event, row_in}
use Rattle.mtc_reader.specs.Events.{window_event}
use Rattle.mtc_reader.specs.Laws.{quarters}
use Rattle.mtc_reader.specs.Messages.{Current, current_in, messages_in, without_real_time}
use Rattle.mtc_reader.specs.StandsFor.{Keeps, KeepsRow, StandsFor, eight_in, events_of, padded}
use Rattle.mtc_reader.proofs.AlongTheBytes.{along, events_along}
use Rattle.mtc_reader.proofs.LatestEight.{eight, eight_of, latest_eight-full, padded_event, padded_full}
use Rattle.mtc_reader.proofs.ReadBack.{below, came, on, rising_window, sounds, IsQuarter, IsRow}
use Rattle.mtc_reader.proofs.Runs.{rising_inner, rising_numbers}
use Rattle.mtc_reader.proofs.SlidingWindow.{ends_behind, given, inner_given, numbers_along, place_behind, replaced}
use Rattle.mtc_reader.proofs.SlidingWindow.{slid}
use Rattle.mtc_reader.proofs.SlidingWindow.{slid_long, window_behind, EndsIn}

-- the first one ends no row that falls
abbrev pub EndsNone : List Message → ℕ → Type 0
EndsNone messages quarter = (place : ℕ) → window_event (latest_eight (row_in messages ++ quarter ∷ [])) place ≡ None

-- eight of the row, which are those of the window, and what comes behind eight more
abbrev window : List Message → List ℕ
window messages = latest_eight (padded (row_in messages))

eights : (messages : List Message) → length (window messages) ≡ 8
eights messages = padded_full (row_in messages)

all_behind : (messages : List Message) (a b c d e f g h : ℕ)
    → EndsIn (came (h ∷ g ∷ f ∷ e ∷ d ∷ c ∷ b ∷ a ∷ []) ++ messages) (a ∷ b ∷ c ∷ d ∷ e ∷ f ∷ g ∷ h ∷ [])
all_behind messages a b c d e f g h =
    ends_behind (a ∷ b ∷ c ∷ d ∷ e ∷ f ∷ g ∷ h ∷ []) messages (window messages) refl
    ∙ replaced (window messages) a b c d e f g h (eights messages)

-- what they give if the first one gives nothing
window_along : (place : ℕ) (current : Current) (messages : List Message) (a b c d e f g h : ℕ) → IsRow a b c d e f g h
    → EndsNone messages a
    → events_along place current messages (quarters (a ∷ b ∷ c ∷ d ∷ e ∷ f ∷ g ∷ h ∷ []))
    ≡ quarter_event Forward (quarter_address (a ∷ b ∷ c ∷ d ∷ e ∷ f ∷ g ∷ h ∷ [])) (place + 15) ∷ []
window_along place current messages a b c d e f g h r first =
    let numbers = a ∷ b ∷ c ∷ d ∷ e ∷ f ∷ g ∷ h ∷ [] in
    let inner = b ∷ c ∷ d ∷ e ∷ f ∷ g ∷ [] in
    let w = window messages in
    let none : window_event (slid w a) (place + 1) ≡ None =
    ap (λ (v : List ℕ). window_event v (place + 1)) (latest_eight-full (padded (row_in messages)) a (eights messages))
    ∙ padded_event (row_in messages ++ a ∷ []) (place + 1) ∙ first (place + 1) in
    numbers_along numbers [] place current messages w (rising_numbers a b c d e f g h r) refl
    ∙ append-nil (given place w numbers)
    ∙ ap (λ o. events_of o ++ given (on place) (slid w a) (b ∷ c ∷ d ∷ e ∷ f ∷ g ∷ h ∷ [])) none
    ∙ inner_given inner (h ∷ []) (on place) (slid w a) (slid_long w a (eights messages))
    (rising_inner a b c d e f g h r)
    ∙ append-nil (events_of (window_event (window_behind w numbers) (place_behind place (a ∷ inner) + 1)))
    ∙ ap (λ (v : List ℕ). events_of (window_event v (place_behind place (a ∷ inner) + 1)))
    (replaced w a b c d e f g h (eights messages))
    ∙ ap events_of (rising_window (place_behind place (a ∷ inner) + 1) a b c d e f g h r)
    ∙ ap (λ n. quarter_event Forward (quarter_address numbers) n ∷ []) (omega arith)

-- the sixteen bytes, the latest first, behind the bytes before them
seen : (front : List ℕ) (a b c d e f g h : ℕ) → IsRow a b c d e f g h
    → without_real_time (reverse (front ++ quarters (a ∷ b ∷ c ∷ d ∷ e ∷ f ∷ g ∷ h ∷ [])))
    ≡ h ∷ 0xf1 ∷ g ∷ 0xf1 ∷ f ∷ 0xf1 ∷ e ∷ 0xf1 ∷ d ∷ 0xf1 ∷ c ∷ 0xf1 ∷ b ∷ 0xf1 ∷ a ∷ 0xf1 ∷ without_real_time
    (reverse front)
seen front a b c d e f g h r =
    ap without_real_time (reverse-append front (quarters (a ∷ b ∷ c ∷ d ∷ e ∷ f ∷ g ∷ h ∷ [])))
    ∙ rw (
      r.first.is_no_real_time,
      r.second.is_no_real_time,
      r.third.is_no_real_time,
      r.fourth.is_no_real_time,
      r.fifth.is_no_real_time,
      r.sixth.is_no_real_time,
      r.seventh.is_no_real_time,
      r.eighth.is_no_real_time,
    ) refl

told : (before : List ℕ) (a b c d e f g h : ℕ) → IsRow a b c d e f g h
    → messages_in (h ∷ 0xf1 ∷ g ∷ 0xf1 ∷ f ∷ 0xf1 ∷ e ∷ 0xf1 ∷ d ∷ 0xf1 ∷ c ∷ 0xf1 ∷ b ∷ 0xf1 ∷ a ∷ 0xf1 ∷ before)
    ≡ came (h ∷ g ∷ f ∷ e ∷ d ∷ c ∷ b ∷ a ∷ []) ++ messages_in before
told before a b c d e f g h r =
    rw (
      r.first.is_data_byte,
      r.second.is_data_byte,
      r.third.is_data_byte,
      r.fourth.is_data_byte,
      r.fifth.is_data_byte,
      r.sixth.is_data_byte,
      r.seventh.is_data_byte,
      r.eighth.is_data_byte,
    ) refl

-- a reader that took them stands for the bytes with them, and they give one event
pub window_taken : (reader next : MtcReader) (front : List ℕ) (a b c d e f g h : ℕ) → IsRow a b c d e f g h
    → next.bytes ≡ reader.bytes + 16
    → ((before : List ℕ) → Keeps next.message (h ∷ 0xf1 ∷ before))
    → eight_in next.row.latest ≡ a ∷ b ∷ c ∷ d ∷ e ∷ f ∷ g ∷ h ∷ []
    → ((before : List Message) (place : ℕ) → KeepsRow reader.row before
    → window_event (latest_eight (row_in before ++ a ∷ [])) place ≡ None)
    → StandsFor reader front
    → StandsFor next (front ++ quarters (a ∷ b ∷ c ∷ d ∷ e ∷ f ∷ g ∷ h ∷ []))
    × (events_in (front ++ quarters (a ∷ b ∷ c ∷ d ∷ e ∷ f ∷ g ∷ h ∷ []))
    ≡ events_in front ++ quarter_event Forward (quarter_address (a ∷ b ∷ c ∷ d ∷ e ∷ f ∷ g ∷ h ∷ []))
    (reader.bytes + 15) ∷ [])
window_taken reader next front a b c d e f g h r count message row first stands =
    let all = quarters (a ∷ b ∷ c ∷ d ∷ e ∷ f ∷ g ∷ h ∷ []) in
    let sounding = without_real_time (reverse front) in
    let messages = messages_in sounding in
    let read = seen front a b c d e f g h r in (
      record {
        count = count ∙ ap (λ n. n + 16) stands.count ∙ sym (length-append front all);
        message = subst (λ (l : List ℕ). Keeps next.message l) (sym read)
            (message (g ∷ 0xf1 ∷ f ∷ 0xf1 ∷ e ∷ 0xf1 ∷ d ∷ 0xf1 ∷ c ∷ 0xf1 ∷ b ∷ 0xf1 ∷ a ∷ 0xf1 ∷ sounding));
        row = subst (λ (l : List Message). KeepsRow next.row l)
            (sym (ap messages_in read ∙ told sounding a b c d e f g h r))
            (row ∙ sym (all_behind messages a b c d e f g h));
      },
      along front all
          ∙ ap (λ es. events_in front ++ es) (window_along (length front)
          (current_in sounding) messages a b c d e f g h r (λ place. first messages place stands.row)
          ∙ ap (λ n. quarter_event Forward (quarter_address (a ∷ b ∷ c ∷ d ∷ e ∷ f ∷ g ∷ h ∷ [])) (n + 15) ∷ [])
          (sym stands.count)),
    )

-- ---- eight numbers with the pieces in order

data_byte : (piece quarter : ℕ) → piece < 8 → piece_of quarter ≡ piece → IsQuarter piece quarter
data_byte piece quarter few is =
    let small : quarter < 0x80 = omega (arith, few, is) in
    record { is_data_byte = below quarter small; is_no_real_time = sounds quarter small; is_piece = is }

row_of : (xs : List ℕ) → length xs ≡ 8 → map piece_of xs ≡ pieces
    → IsRow (slice_index xs 0) (slice_index xs 1) (slice_index xs 2) (slice_index xs 3) (slice_index xs 4)
    (slice_index xs 5) (slice_index xs 6) (slice_index xs 7)
row_of xs long are =
    let same = ap (map piece_of) (sym (eight xs long)) ∙ are in
    record {
      first = data_byte 0 _ (omega arith) (ap (λ l. slice_index l 0) same);
      second = data_byte 1 _ (omega arith) (ap (λ l. slice_index l 1) same);
      third = data_byte 2 _ (omega arith) (ap (λ l. slice_index l 2) same);
      fourth = data_byte 3 _ (omega arith) (ap (λ l. slice_index l 3) same);
      fifth = data_byte 4 _ (omega arith) (ap (λ l. slice_index l 4) same);
      sixth = data_byte 5 _ (omega arith) (ap (λ l. slice_index l 5) same);
      seventh = data_byte 6 _ (omega arith) (ap (λ l. slice_index l 6) same);
      eighth = data_byte 7 _ (omega arith) (ap (λ l. slice_index l 7) same);
    }

-- and their bytes
pub rising_taken : (reader next : MtcReader) (front bytes window : List ℕ) (event : MtcEvent)
    → bytes_eq (map piece_of window) pieces ≡ true → bytes ≡ quarters window → next.bytes ≡ reader.bytes + 16
    → ((before : List ℕ) (n : ℕ) → n < 0x80 → Keeps next.message (n ∷ 0xf1 ∷ before))
    → eight_in next.row.latest ≡ window
    → ((before : List Message) (place : ℕ) → KeepsRow reader.row before
    → window_event (latest_eight (row_in before ++ slice_index window 0 ∷ [])) place ≡ None)
    → event ≡ quarter_event Forward (quarter_address window) (reader.bytes + 15) → StandsFor reader front
    → StandsFor next (front ++ bytes) × (events_in (front ++ bytes) ≡ events_in front ++ event ∷ [])
rising_taken reader next front bytes window event in_order are count message row first is stands =
    let rise = (bytes_eq-Decides (map piece_of window) pieces).0 in_order in
    let long = eight_of window rise in
    let all = eight window long in
    let r = row_of window long rise in
    let last : slice_index window 7 < 0x80 = let p = r.eighth.is_piece in omega (arith, p) in
    let taken = window_taken reader next front _ _ _ _ _ _ _ _ r count
    (λ before. message before (slice_index window 7) last) (row ∙ all) first stands in
    let spelled = are ∙ ap quarters all in (
      subst (λ (l : List ℕ). StandsFor next (front ++ l)) (sym spelled) taken.0,
      ap (λ (l : List ℕ). events_in (front ++ l)) spelled ∙ taken.1
          ∙ ap (λ (e : MtcEvent). events_in front ++ e ∷ [])
          (sym (is ∙ ap (λ (l : List ℕ). quarter_event Forward (quarter_address l) (reader.bytes + 15)) all)),
    )
