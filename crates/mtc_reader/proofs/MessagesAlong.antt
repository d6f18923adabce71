-- If bytes hold no message none is complete in them, and a message that is spelled is complete with its last byte,
-- whatever comes before it.
use Rattle.std.proofs.Common.{◌≡◌, ◌<◌, ◌⊎◌, ℕ, ◌+◌, ◌-◌, Bool, true, false, List, [], ◌∷◌, ◌++◌, length, Some}
use Rattle.std.proofs.Common.{None}
use Rattle.std.proofs.Common.{inl, inr, refl, sym, ◌∙◌, ap, subst, arith, append-nil, append_assoc, length-append}
use Rattle.std.specs.Prelude.{◌==◌, ◌&&◌, cond}
use Rattle.std.proofs.lemmas.Bool.{eqb-true, lt-ltb, ltb-true, and_parts}
use Rattle.mtc_reader.specs.declared.event.MtcEvent.{MtcEvent}
use Rattle.mtc_reader.specs.declared.message.Message.{Message}
use Rattle.mtc_reader.specs.declared.message.Message.TheVariants.{QuarterFrame, FullMessage}
use Rattle.mtc_reader.specs.declared.message.MessageKind.{MessageKind}
use Rattle.mtc_reader.specs.declared.message.MessageKind.TheVariants.{Quarter, Exclusive, Other}
use Rattle.mtc_reader.specs.Events.{event_of, full_address, full_event}
use Rattle.mtc_reader.specs.Messages.{Current, completed_by, full_in, full_with, is_data, is_sounding, kind_with}
use Rattle.mtc_reader.specs.Messages.{quarter_with, with_byte}
use Rattle.mtc_reader.specs.Spelled.{AreMessages, AreSounding, HoldNone, PlacedMessage, SpelledMessage, Spells, placed}
use Rattle.mtc_reader.specs.StandsFor.{IsPast, events_of}
use Rattle.mtc_reader.proofs.AlongTheBytes.{events_along}
use Rattle.mtc_reader.proofs.ReadBack.{after, below, full_step, quarter_step, sounds}

-- what messages give, one after another, behind messages, of which the latest comes first
abbrev pub given_by : List Message → List PlacedMessage → List MtcEvent
given_by messages [] = []
given_by messages (one ∷ more) =
    events_of (event_of one.message messages one.place) ++ given_by (one.message ∷ messages) more

-- ---- the message that bytes are in

abbrev AreData : List ℕ → Type 0
AreData [] = Unit {0}
AreData (number ∷ more) = (number < 0x80) × AreData more

data_push : (numbers : List ℕ) (number : ℕ) → AreData numbers → number < 0x80 → AreData (numbers ++ number ∷ [])
data_push [] number are below = (below, tt)
data_push (first ∷ numbers) number are below = (are.0, data_push numbers number are.1 below)

-- the bytes of the message so far, its status byte first; if there are none, no byte completes it any more
abbrev IsIn : List ℕ → Current → Type 0
IsIn [] current = IsPast current
IsIn (status ∷ numbers) current =
    (is_data status ≡ false) × AreData numbers × (current ≡ record { kind = kind_with status; numbers = numbers })

-- the same with a byte more
abbrev bytes_on : List ℕ → ℕ → Bool → List ℕ
bytes_on [] byte true = []
bytes_on (status ∷ numbers) byte true = status ∷ numbers ++ byte ∷ []
bytes_on bytes byte false = byte ∷ []

past_on : (current : Current) (byte : ℕ) → IsPast current
    → IsPast (record { kind = current.kind; numbers = current.numbers ++ byte ∷ [] })
past_on current byte (inl other) = inl other
past_on current byte (inr quarter) =
    inr (quarter.0, omega (arith, quarter.1, length-append current.numbers (byte ∷ [])))

in_on : (is_number : Bool) (bytes : List ℕ) (current : Current) (byte : ℕ) → is_data byte ≡ is_number
    → IsIn bytes current
    → IsIn (bytes_on bytes byte is_number) (with_byte byte current)
in_on true [] current byte is within = rw is (past_on current byte within)
in_on true (status ∷ numbers) current byte is within = (
  within.0,
  data_push numbers byte within.1 (ltb-true byte 0x80 is),
  rw (is, within.2) refl,
)
in_on false [] current byte is within = (is, tt, rw is refl)
in_on false (status ∷ numbers) current byte is within = (is, tt, rw is refl)

-- ---- bytes that hold no message

-- none of their ends holds one
pub ends_hold_none : (front bytes : List ℕ) → HoldNone (front ++ bytes) → HoldNone bytes
ends_hold_none front bytes none before spelled after message spells is =
    none (front ++ before) spelled after message spells
    (ap (λ (l : List ℕ). front ++ l) is ∙ sym (append_assoc front before (spelled ++ after)))

none_on : (is_number : Bool) (bytes more : List ℕ) (byte : ℕ) → HoldNone (bytes ++ byte ∷ more)
    → HoldNone (bytes_on bytes byte is_number ++ more)
none_on true [] more byte none = ends_hold_none (byte ∷ []) more none
none_on true (status ∷ numbers) more byte none =
    subst HoldNone (sym (append_assoc (status ∷ numbers) (byte ∷ []) more)) none
none_on false [] more byte none = none
none_on false (status ∷ numbers) more byte none = ends_hold_none (status ∷ numbers) (byte ∷ more) none

-- a second data byte completes no quarter frame
second_none : (kind : MessageKind) (number byte : ℕ) (more : List ℕ) → quarter_with kind (number ∷ more) byte ≡ None
second_none Quarter number byte more = refl
second_none Exclusive number byte more = refl
second_none Other number byte more = refl

-- and the first one none behind another status byte
first_none : (quarter exclusive : Bool) (byte : ℕ) → (quarter ≡ true → ⊥)
    → quarter_with (cond quarter Quarter (cond exclusive Exclusive Other)) [] byte ≡ None
first_none true exclusive byte other = absurd (other refl)
first_none false true byte other = refl
first_none false false byte other = refl

past_quarter : (kind : MessageKind) (numbers : List ℕ) (byte : ℕ)
    → (kind ≡ Other) ⊎ ((kind ≡ Quarter) × (0 < length numbers)) → quarter_with kind numbers byte ≡ None
past_quarter Other numbers byte past = refl
past_quarter Exclusive numbers byte past = refl
past_quarter Quarter [] byte (inl other) = absurd cc
past_quarter Quarter [] byte (inr quarter) = let some = quarter.1 in absurd (omega (arith, some))
past_quarter Quarter (number ∷ more) byte past = refl

no_quarter : (bytes more : List ℕ) (current : Current) (byte : ℕ) → byte < 0x80 → IsIn bytes current
    → HoldNone (bytes ++ byte ∷ more) → quarter_with current.kind current.numbers byte ≡ None
no_quarter [] more current byte below within none = past_quarter current.kind current.numbers byte within
no_quarter (status ∷ []) more current byte below within none =
    rw within.2 (first_none (status == 0xf1) (status == 0xf0) byte
    (λ is. none [] (status ∷ byte ∷ []) more (QuarterFrame byte)
    (below, ap (λ (n : ℕ). n ∷ byte ∷ []) (eqb-true status 0xf1 is)) refl))
no_quarter (status ∷ number ∷ numbers) more current byte below within none =
    rw within.2 (second_none (kind_with status) number byte numbers)

-- nor does the end complete a full message
not_exclusive : (status a b c d e f g h : ℕ) (more : List ℕ) → status ≡ 0xf0
    → AreData (a ∷ b ∷ c ∷ d ∷ e ∷ f ∷ g ∷ h ∷ [])
    → HoldNone (status ∷ a ∷ b ∷ c ∷ d ∷ e ∷ f ∷ g ∷ h ∷ 0xf7 ∷ more)
    → (full : Bool) → ((a == 0x7f) && (c == 1) && (d == 1)) ≡ full → cond full (Some (FullMessage e f g h)) None ≡ None
not_exclusive status a b c d e f g h more begins are none false is = refl
not_exclusive status a b c d e f g h more begins are none true is =
    let two = and_parts ((a == 0x7f) && (c == 1)) (d == 1) is in
    let one = and_parts (a == 0x7f) (c == 1) two.0 in
    let realtime = eqb-true a 0x7f one.0 in
    let first = eqb-true c 1 one.1 in
    let second = eqb-true d 1 two.1 in
    let n = are.1.1.1.1 in
    absurd (none [] (status ∷ a ∷ b ∷ c ∷ d ∷ e ∷ f ∷ g ∷ h ∷ 0xf7 ∷ []) more (FullMessage e f g h)
    (b, are.1.0, n.0, n.1.0, n.1.1.0, n.1.1.1.0, rw (begins, realtime, first, second) refl) refl)

no_full_in : (status : ℕ) (numbers more : List ℕ) → status ≡ 0xf0 → AreData numbers
    → HoldNone ((status ∷ numbers) ++ 0xf7 ∷ more) → full_in numbers ≡ None
no_full_in status [] more begins are none = refl
no_full_in status (a ∷ []) more begins are none = refl
no_full_in status (a ∷ b ∷ []) more begins are none = refl
no_full_in status (a ∷ b ∷ c ∷ []) more begins are none = refl
no_full_in status (a ∷ b ∷ c ∷ d ∷ []) more begins are none = refl
no_full_in status (a ∷ b ∷ c ∷ d ∷ e ∷ []) more begins are none = refl
no_full_in status (a ∷ b ∷ c ∷ d ∷ e ∷ f ∷ []) more begins are none = refl
no_full_in status (a ∷ b ∷ c ∷ d ∷ e ∷ f ∷ g ∷ []) more begins are none = refl
no_full_in status (a ∷ b ∷ c ∷ d ∷ e ∷ f ∷ g ∷ h ∷ []) more begins are none =
    not_exclusive status a b c d e f g h more begins are none ((a == 0x7f) && (c == 1) && (d == 1)) refl
no_full_in status (a ∷ b ∷ c ∷ d ∷ e ∷ f ∷ g ∷ h ∷ i ∷ numbers) more begins are none = refl

past_full : (kind : MessageKind) (numbers : List ℕ) → (kind ≡ Other) ⊎ ((kind ≡ Quarter) × (0 < length numbers))
    → full_with kind numbers ≡ None
past_full Other numbers past = refl
past_full Quarter numbers past = refl
past_full Exclusive numbers (inl other) = absurd cc
past_full Exclusive numbers (inr quarter) = let is = quarter.0 in absurd cc

begun_full : (quarter exclusive : Bool) (numbers : List ℕ) → (exclusive ≡ true → full_in numbers ≡ None)
    → full_with (cond quarter Quarter (cond exclusive Exclusive Other)) numbers ≡ None
begun_full true exclusive numbers none = refl
begun_full false true numbers none = none refl
begun_full false false numbers none = refl

no_full : (bytes more : List ℕ) (current : Current) → IsIn bytes current → HoldNone (bytes ++ 0xf7 ∷ more)
    → full_with current.kind current.numbers ≡ None
no_full [] more current within none = past_full current.kind current.numbers within
no_full (status ∷ numbers) more current within none =
    rw within.2 (begun_full (status == 0xf1) (status == 0xf0) numbers
    (λ is. no_full_in status numbers more (eqb-true status 0xf0 is) within.1 none))

none_complete : (is_number end : Bool) (bytes more : List ℕ) (current : Current) (byte : ℕ) → is_data byte ≡ is_number
    → (byte == 0xf7) ≡ end → IsIn bytes current → HoldNone (bytes ++ byte ∷ more) → completed_by byte current ≡ None
none_complete true end bytes more current byte is ends within none =
    rw is (no_quarter bytes more current byte (ltb-true byte 0x80 is) within none)
none_complete false true bytes more current byte is ends within none =
    rw (is, ends) (no_full bytes more current within
    (subst (λ (n : ℕ). HoldNone (bytes ++ n ∷ more)) (eqb-true byte 0xf7 ends) none))
none_complete false false bytes more current byte is ends within none = rw (is, ends) refl

-- ---- along the bytes

one_passed : (place : ℕ) (current : Current) (messages : List Message) (byte : ℕ) (more : List ℕ)
    → is_sounding byte ≡ true → completed_by byte current ≡ None
    → events_along place current messages (byte ∷ more)
    ≡ events_along (place + 1) (with_byte byte current) messages more
one_passed place current messages byte more sounds_so none = rw (sounds_so, none) refl

all_passed : (xs bytes : List ℕ) (place : ℕ) (current : Current) (messages : List Message) (rest : List ℕ)
    → AreSounding xs → IsIn bytes current → HoldNone (bytes ++ xs)
    → (next : Current)
    × (events_along place current messages (xs ++ rest) ≡ events_along (place + length xs) next messages rest)
all_passed [] bytes place current messages rest sounding within none =
    (current, ap (λ (n : ℕ). events_along n current messages rest) (let same : place ≡ place + 0 = omega arith in same))
all_passed (x ∷ xs) bytes place current messages rest sounding within none =
    let more = all_passed xs (bytes_on bytes x (is_data x)) (place + 1) (with_byte x current) messages rest sounding.1
    (in_on (is_data x) bytes current x refl within) (none_on (is_data x) bytes xs x none) in
    let same : place + 1 + length xs ≡ place + length (x ∷ xs) = omega arith in (
      more.0,
      one_passed place current messages x (xs ++ rest) (lt-ltb x 0xf8 sounding.0)
          (none_complete (is_data x) (x == 0xf7) bytes xs current x refl refl within none)
          ∙ more.1 ∙ ap (λ (n : ℕ). events_along n more.0 messages rest) same,
    )

-- a message is complete with its last byte, and no byte completes it again
record IsComplete (message : Message) (spelled : List ℕ) (place : ℕ) (current : Current) (messages : List Message)
    (rest : List ℕ) : Type 0 where
  next : Current
  past : IsPast next
  given : events_along place current messages (spelled ++ rest)
      ≡ events_of (event_of message messages (place + length spelled - 1))
      ++ events_along (place + length spelled) next (message ∷ messages) rest

complete : (message : Message) (spelled : List ℕ) (place : ℕ) (current : Current) (messages : List Message)
    (rest : List ℕ) → Spells message spelled → IsComplete message spelled place current messages rest
complete (QuarterFrame number) spelled place current messages rest spells =
    let last : place + 1 ≡ place + 2 - 1 = omega arith in
    let end : place + 1 + 1 ≡ place + 2 = omega arith in
    let behind = λ (n : ℕ). events_along n (after number) (QuarterFrame number ∷ messages) rest in
    subst (λ (s : List ℕ). IsComplete (QuarterFrame number) s place current messages rest) (sym spells.1) (record {
      next = after number;
      past = inr (refl, omega arith);
      given = quarter_step place current messages number rest (below number spells.0) (sounds number spells.0)
          ∙ ap (λ (n : ℕ). events_of (event_of (QuarterFrame number) messages n) ++ behind (place + 1 + 1)) last
          ∙ ap (λ (n : ℕ). events_of (event_of (QuarterFrame number) messages (place + 2 - 1)) ++ behind n) end;
    })
complete (FullMessage hours minutes seconds frames) spelled place current messages rest spells =
    let message = FullMessage hours minutes seconds frames in
    let last : place + 9 ≡ place + 10 - 1 = omega arith in
    let next : Current = record { kind = Other; numbers = [] } in
    let behind = events_along (place + 10) next (message ∷ messages) rest in
    subst (λ (s : List ℕ). IsComplete message s place current messages rest) (sym spells.6) (record {
      next = next;
      past = inl refl;
      given = full_step place current messages spells.0 hours minutes seconds frames rest spells.1 spells.2 spells.3
          spells.4 spells.5
          ∙ ap (λ (n : ℕ). full_event (full_address hours minutes seconds frames) n ∷ behind) last;
    })

-- both parts of bytes without real-time bytes have none
both_sounding : (front rest : List ℕ) → AreSounding (front ++ rest) → AreSounding front × AreSounding rest
both_sounding [] rest sounding = (tt, sounding)
both_sounding (byte ∷ front) rest sounding =
    let more = both_sounding front rest sounding.1 in ((sounding.0, more.0), more.1)

pub messages_along : (list : List SpelledMessage) (bytes : List ℕ) (place : ℕ) (current : Current)
    (messages : List Message) → AreSounding bytes → IsPast current → AreMessages list bytes
    → events_along place current messages bytes ≡ given_by messages (placed place list)
messages_along [] bytes place current messages sounding past are =
    ap (λ (l : List ℕ). events_along place current messages l) (sym (append-nil bytes))
    ∙ (all_passed bytes [] place current messages [] sounding past are).1
messages_along (one ∷ more) bytes place current messages sounding past are =
    let rest = are.0 in
    let all = both_sounding one.between (one.spelled ++ rest) (subst AreSounding are.1 sounding) in
    let behind = both_sounding one.spelled rest all.1 in
    let there = place + length one.between in
    let first = all_passed one.between [] place current messages (one.spelled ++ rest) all.0 past are.2 in
    let own = complete one.message one.spelled there first.0 messages rest are.3 in
    ap (λ (l : List ℕ). events_along place current messages l) are.1 ∙ first.1 ∙ own.given
    ∙ ap (λ (es : List MtcEvent). events_of (event_of one.message messages (there + length one.spelled - 1)) ++ es)
    (messages_along more rest (there + length one.spelled) own.next (one.message ∷ messages) behind.1 own.past are.4)
