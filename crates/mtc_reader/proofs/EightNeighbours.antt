-- Eight quarter frames that end in one are eight that begin in another: what each message gives behind those before it
-- is what each begins before those behind it.
use Rattle.std.proofs.Common.{◌≡◌, ◌<◌, ◌≤◌, ℕ, zero, suc, ◌+◌, ◌-◌, List, [], ◌∷◌, ◌++◌, length, take, drop, None}
use Rattle.std.proofs.Common.{inl, inr, refl, sym, ◌∙◌, ap, ap₂, arith, append-nil, append_assoc, length-append}
use Rattle.std.specs.Prelude.{cond, nat_lt, Option, Some}
use Rattle.std.specs.List.{cons_option}
use Rattle.std.proofs.lemmas.Bool.{cases_lt, le-ltb, lt-ltb}
use Rattle.std.proofs.lemmas.List.{length-take, take_at}
use Rattle.mtc_reader.specs.declared.event.MtcEvent.{MtcEvent}
use Rattle.mtc_reader.specs.declared.message.Message.{Message}
use Rattle.mtc_reader.specs.declared.message.Message.TheVariants.{QuarterFrame, FullMessage}
use Rattle.mtc_reader.specs.Events.{full_address, full_event, latest_eight, row_in, window_event}
use Rattle.mtc_reader.specs.Spelled.{PlacedMessage, carried_by, eight_event, last_place, row_of, row_with}
use Rattle.mtc_reader.specs.StandsFor.{events_of}
use Rattle.mtc_reader.proofs.LatestEight.{length-latest_eight, no_window}
use Rattle.mtc_reader.proofs.MessagesAlong.{given_by}

-- all of them are quarter frames
abbrev IsQuarterFrame : Message → Type 0
IsQuarterFrame (QuarterFrame number) = Unit {0}
IsQuarterFrame (FullMessage hours minutes seconds frames) = ⊥

abbrev AreQuarterFrames : List PlacedMessage → Type 0
AreQuarterFrames [] = Unit {0}
AreQuarterFrames (one ∷ row) = IsQuarterFrame one.message × AreQuarterFrames row

-- what eight carry whose first one is in a row and whose last one comes behind it
abbrev begun_at : List PlacedMessage → List PlacedMessage → List MtcEvent
begun_at row behind = cond (nat_lt (length row) 8) (events_of (eight_event (take 8 (row ++ behind)))) []

abbrev begun_in : List PlacedMessage → List PlacedMessage → List MtcEvent
begun_in [] behind = []
begun_in (one ∷ row) behind = begun_at (one ∷ row) behind ++ begun_in row behind

-- ---- fewer than eight carry nothing

with_row : (message : Message) (row : List ℕ) → length (row_with message row) ≤ length row + 1
with_row (QuarterFrame number) row = omega arith
with_row (FullMessage hours minutes seconds frames) row = omega arith

row_within : (messages : List PlacedMessage) → length (row_of messages) ≤ length messages
row_within [] = omega arith
row_within (one ∷ more) =
    let own = with_row one.message (row_of more) in let rest = row_within more in omega (arith, own, rest)

short_event : (eight : List PlacedMessage) → length (row_of eight) < 8 → events_of (eight_event eight) ≡ []
short_event eight short =
    ap events_of (no_window (row_of eight) (last_place eight) (λ is. absurd (omega (arith, short, is))))

-- whose last one would come behind a full message
full_stops : (n : ℕ) (row : List PlacedMessage) (full : PlacedMessage) (more : List PlacedMessage)
    → ((numbers : List ℕ) → row_with full.message numbers ≡ [])
    → length (row_of (take n (row ++ full ∷ more))) ≤ length row
full_stops zero row full more stops = omega arith
full_stops (suc n) [] full more stops =
    let none = ap length (stops (row_of (take n more))) in omega (arith, none)
full_stops (suc n) (one ∷ row) full more stops =
    let own = with_row one.message (row_of (take n (row ++ full ∷ more))) in
    let rest = full_stops n row full more stops in omega (arith, own, rest)

none_begun_at : (row behind : List PlacedMessage)
    → (length row < 8 → length (row_of (take 8 (row ++ behind))) < 8) → begun_at row behind ≡ []
none_begun_at row behind short =
    elim (cases_lt (length row) 8) [
      | inl less ↦ rw (lt-ltb (length row) 8 less) (short_event (take 8 (row ++ behind)) (short less))
      | inr many ↦ rw (le-ltb (length row) 8 many) refl
    ]

none_begun_full : (row : List PlacedMessage) (full : PlacedMessage) (more : List PlacedMessage)
    → ((numbers : List ℕ) → row_with full.message numbers ≡ []) → begun_in row (full ∷ more) ≡ []
none_begun_full [] full more stops = refl
none_begun_full (one ∷ row) full more stops =
    let within = full_stops 8 (one ∷ row) full more stops in
    ap₂ (λ (a b : List MtcEvent). a ++ b)
    (none_begun_at (one ∷ row) (full ∷ more) (λ less. omega (arith, within, less)))
    (none_begun_full row full more stops)

none_begun_end : (row : List PlacedMessage) → begun_in row [] ≡ []
none_begun_end [] = refl
none_begun_end (one ∷ row) =
    let all = row_within (take 8 ((one ∷ row) ++ [])) in
    let front = length-take 8 ((one ∷ row) ++ []) in
    let long = length-append (one ∷ row) [] in
    ap₂ (λ (a b : List MtcEvent). a ++ b)
    (none_begun_at (one ∷ row) [] (λ less. omega (arith, all, front, long, less))) (none_begun_end row)

-- ---- a quarter frame more

-- what it gives behind a row
abbrev ended_at : List PlacedMessage → ℕ → ℕ → List MtcEvent
ended_at row number place = events_of (window_event (latest_eight (row_of row ++ number ∷ [])) place)

quarter_first : (message : Message) (row : List PlacedMessage) → IsQuarterFrame message
    → length (row_of row) ≡ length row → length (row_with message (row_of row)) ≡ suc (length row)
quarter_first (QuarterFrame number) row is same = omega (arith, same)
quarter_first (FullMessage hours minutes seconds frames) row is same = absurd is

quarter_row : (row : List PlacedMessage) → AreQuarterFrames row → length (row_of row) ≡ length row
quarter_row [] are = refl
quarter_row (one ∷ row) are = quarter_first one.message row are.0 (quarter_row row are.1)

-- fewer than seven and one more are no eight
short_end : (row : List PlacedMessage) (number place : ℕ) → AreQuarterFrames row → length row < 7
    → ended_at row number place ≡ []
short_end row number place are short =
    let same = quarter_row row are in
    let long = length-append (row_of row) (number ∷ []) in
    let eight = length-latest_eight (row_of row ++ number ∷ []) in
    ap events_of (no_window (latest_eight (row_of row ++ number ∷ [])) place
    (λ is. absurd (omega (arith, same, long, eight, is, short))))

-- the eight latest ones of a row that is longer are those of the row without its first one
latest_behind : (first : ℕ) (row : List ℕ) → 8 ≤ length row → latest_eight (first ∷ row) ≡ latest_eight row
latest_behind first row long =
    let on : length (first ∷ row) - 8 ≡ suc (length row - 8) = omega (arith, long) in
    ap (λ (n : ℕ). drop n (first ∷ row)) on

long_end : (message : Message) (row : List PlacedMessage) (number place : ℕ) → IsQuarterFrame message
    → AreQuarterFrames row → 7 ≤ length row
    → events_of (window_event (latest_eight (row_with message (row_of row) ++ number ∷ [])) place)
    ≡ ended_at row number place
long_end (QuarterFrame first) row number place is are long =
    let same = quarter_row row are in
    let more = length-append (row_of row) (number ∷ []) in
    ap (λ (w : List ℕ). events_of (window_event w place))
    (latest_behind first (row_of row ++ number ∷ []) (omega (arith, same, more, long)))
long_end (FullMessage hours minutes seconds frames) row number place is are long = absurd is

row_push_first : (message : Message) (row : List PlacedMessage) (one : PlacedMessage) (number : ℕ)
    → IsQuarterFrame message → row_of (row ++ one ∷ []) ≡ row_of row ++ number ∷ []
    → row_with message (row_of (row ++ one ∷ [])) ≡ row_with message (row_of row) ++ number ∷ []
row_push_first (QuarterFrame first) row one number is same = ap (λ (l : List ℕ). first ∷ l) same
row_push_first (FullMessage hours minutes seconds frames) row one number is same = absurd is

-- the data bytes of a row and one more
row_push : (row : List PlacedMessage) (one : PlacedMessage) (number : ℕ) → one.message ≡ QuarterFrame number
    → AreQuarterFrames row → row_of (row ++ one ∷ []) ≡ row_of row ++ number ∷ []
row_push [] one number is are = rw is refl
row_push (first ∷ row) one number is are =
    row_push_first first.message row one number are.0 (row_push row one number is are.1)

place_push : (row : List PlacedMessage) (one : PlacedMessage) → last_place (row ++ one ∷ []) ≡ one.place
place_push [] one = refl
place_push (first ∷ []) one = refl
place_push (first ∷ next ∷ row) one = place_push (next ∷ row) one

-- seven and one more are eight
whole_end : (row more : List PlacedMessage) (one : PlacedMessage) (number : ℕ) → one.message ≡ QuarterFrame number
    → AreQuarterFrames row → length row ≡ 7 → begun_at row (one ∷ more) ≡ ended_at row number one.place
whole_end row more one number is are seven =
    let guard = lt-ltb (length row) 8 (omega (arith, seven)) in
    let long = length-append row (one ∷ []) in
    let eight : length (row ++ one ∷ []) ≡ 8 = omega (arith, long, seven) in
    let same = quarter_row row are in
    let pushed = length-append (row_of row) (number ∷ []) in
    let none : length (row_of row ++ number ∷ []) - 8 ≡ 0 = omega (arith, same, seven, pushed) in
    let all : take 8 (row ++ one ∷ more) ≡ row ++ one ∷ [] =
    ap (take 8) (sym (append_assoc row (one ∷ []) more)) ∙ take_at (row ++ one ∷ []) more 8 eight in
    rw guard (ap (λ (l : List PlacedMessage). events_of (eight_event l)) all
    ∙ ap₂ (λ (w : List ℕ) (p : ℕ). events_of (window_event w p)) (row_push row one number is are) (place_push row one)
    ∙ ap (λ (n : ℕ). events_of (window_event (drop n (row_of row ++ number ∷ [])) one.place)) (sym none))

none_ended : (row behind : List PlacedMessage) → 8 ≤ length row → begun_at row behind ≡ []
none_ended row behind long = rw (le-ltb (length row) 8 long) refl

-- of the first one of a row: what ends in one more, and what begins with it, before and behind
first_of_row : (first : PlacedMessage) (row more : List PlacedMessage) (one : PlacedMessage) (number : ℕ)
    → one.message ≡ QuarterFrame number → AreQuarterFrames (first ∷ row)
    → ended_at (first ∷ row) number one.place ++ begun_at ((first ∷ row) ++ one ∷ []) more
    ≡ begun_at (first ∷ row) (one ∷ more) ++ ended_at row number one.place
first_of_row first row more one number is are =
    let joined = append_assoc (first ∷ row) (one ∷ []) more in
    let long = length-append (first ∷ row) (one ∷ []) in
    elim (cases_lt (length row) 6) [
      | inl short ↦ (
          let one_more = lt-ltb (length ((first ∷ row) ++ one ∷ [])) 8 (omega (arith, long, short)) in
          let as_many = lt-ltb (length (first ∷ row)) 8 (omega (arith, short)) in
          let begun : begun_at ((first ∷ row) ++ one ∷ []) more ≡ begun_at (first ∷ row) (one ∷ more) =
          rw (one_more, as_many) (ap (λ (l : List PlacedMessage). events_of (eight_event (take 8 l))) joined) in
          ap₂ (λ (a b : List MtcEvent). a ++ b) (short_end (first ∷ row) number one.place are (omega (arith, short)))
          begun
          ∙ sym (append-nil (begun_at (first ∷ row) (one ∷ more)))
          ∙ ap (λ (es : List MtcEvent). begun_at (first ∷ row) (one ∷ more) ++ es)
          (sym (short_end row number one.place are.1 (omega (arith, short)))))
      | inr six ↦ elim (cases_lt (length row) 7) [
        | inl seven ↦ ap₂ (λ (a b : List MtcEvent). a ++ b)
            (sym (whole_end (first ∷ row) more one number is are (omega (arith, six, seven))))
            (none_ended ((first ∷ row) ++ one ∷ []) more (omega (arith, long, six))
            ∙ sym (short_end row number one.place are.1 seven))
        | inr many ↦ ap₂ (λ (a b : List MtcEvent). a ++ b)
            (long_end first.message row number one.place are.0 are.1 many)
            (none_ended ((first ∷ row) ++ one ∷ []) more (omega (arith, long, many)))
            ∙ append-nil (ended_at row number one.place)
            ∙ ap (λ (es : List MtcEvent). es ++ ended_at row number one.place)
            (sym (none_ended (first ∷ row) (one ∷ more) (omega (arith, many))))
      ]
    ]

-- of all of a row
one_more : (row more : List PlacedMessage) (one : PlacedMessage) (number : ℕ) → one.message ≡ QuarterFrame number
    → AreQuarterFrames row
    → ended_at row number one.place ++ begun_in (row ++ one ∷ []) more
    ≡ begun_in row (one ∷ more) ++ events_of (eight_event (take 8 (one ∷ more)))
one_more [] more one number is are =
    ap (λ (es : List MtcEvent). es ++ begun_in (one ∷ []) more) (short_end [] number one.place tt (omega arith))
    ∙ append-nil (begun_at (one ∷ []) more)
one_more (first ∷ row) more one number is are =
    let ended = ended_at (first ∷ row) number one.place in
    let with_one = begun_at ((first ∷ row) ++ one ∷ []) more in
    let behind = begun_in (row ++ one ∷ []) more in
    let before = begun_at (first ∷ row) (one ∷ more) in
    sym (append_assoc ended with_one behind)
    ∙ ap (λ (es : List MtcEvent). es ++ behind) (first_of_row first row more one number is are)
    ∙ append_assoc before (ended_at row number one.place) behind
    ∙ ap (λ (es : List MtcEvent). before ++ es) (one_more row more one number is are.1)
    ∙ sym (append_assoc before (begun_in row (one ∷ more)) (events_of (eight_event (take 8 (one ∷ more)))))

-- ---- all messages

cons_as_list : (event : Option MtcEvent) (events : List MtcEvent) → events_of event ++ events ≡ cons_option event events
cons_as_list None events = refl
cons_as_list (Some event) events = refl

row_push_quarter : (row : List PlacedMessage) (one : PlacedMessage) (number : ℕ) → one.message ≡ QuarterFrame number
    → AreQuarterFrames row → AreQuarterFrames (row ++ one ∷ [])
row_push_quarter [] one number is are = (rw is tt, tt)
row_push_quarter (first ∷ row) one number is are = (are.0, row_push_quarter row one number is are.1)

abbrev placed_at : Message → ℕ → PlacedMessage
placed_at message place = record { message = message; place = place }

given_first : (message : Message) (place : ℕ) (more row : List PlacedMessage) (messages : List Message)
    → AreQuarterFrames row → row_in messages ≡ row_of row
    → ((next : List PlacedMessage) → AreQuarterFrames next → row_in (message ∷ messages) ≡ row_of next
    → given_by (message ∷ messages) more ≡ begun_in next more ++ carried_by more)
    → given_by messages (placed_at message place ∷ more)
    ≡ begun_in row (placed_at message place ∷ more) ++ carried_by (placed_at message place ∷ more)
given_first (FullMessage hours minutes seconds frames) place more row messages are same all =
    let one = placed_at (FullMessage hours minutes seconds frames) place in
    let event = full_event (full_address hours minutes seconds frames) place in
    ap (λ (es : List MtcEvent). event ∷ es) (all [] tt refl)
    ∙ ap (λ (es : List MtcEvent). es ++ event ∷ carried_by more)
    (sym (none_begun_full row one more (λ numbers. refl)))
given_first (QuarterFrame number) place more row messages are same all =
    let one = placed_at (QuarterFrame number) place in
    let next = row ++ one ∷ [] in
    let own = ended_at row number place in
    let begun = events_of (eight_event (take 8 (one ∷ more))) in
    ap (λ (l : List ℕ). events_of (window_event (latest_eight (l ++ number ∷ [])) place)
    ++ given_by (QuarterFrame number ∷ messages) more) same
    ∙ ap (λ (es : List MtcEvent). own ++ es) (all next (row_push_quarter row one number refl are)
    (ap (λ (l : List ℕ). l ++ number ∷ []) same ∙ sym (row_push row one number refl are)))
    ∙ sym (append_assoc own (begun_in next more) (carried_by more))
    ∙ ap (λ (es : List MtcEvent). es ++ carried_by more) (one_more row more one number refl are)
    ∙ append_assoc (begun_in row (one ∷ more)) begun (carried_by more)
    ∙ ap (λ (es : List MtcEvent). begun_in row (one ∷ more) ++ es)
    (cons_as_list (eight_event (take 8 (one ∷ more))) (carried_by more))

given_behind : (behind row : List PlacedMessage) (messages : List Message) → AreQuarterFrames row
    → row_in messages ≡ row_of row → given_by messages behind ≡ begun_in row behind ++ carried_by behind
given_behind [] row messages are same = sym (append-nil (begun_in row []) ∙ none_begun_end row)
given_behind (one ∷ more) row messages are same =
    given_first one.message one.place more row messages are same
    (λ next quarters is. given_behind more next (one.message ∷ messages) quarters is)

pub all_carried : (messages : List PlacedMessage) → given_by [] messages ≡ carried_by messages
all_carried messages = given_behind messages [] [] tt refl
