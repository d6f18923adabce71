-- What carries a label is read as that label.
use Rattle.std.proofs.Common.{◌≡◌, ◌<◌, ◌≤◌, ◌++◌, map, Some, ℕ, ◌+◌, ◌*◌, ◌/◌, ◌%◌, List, []}
use Rattle.std.proofs.Common.{◌∷◌, true, refl, ◌∙◌, ap, arith}
use Rattle.std.proofs.lemmas.Bool.{cond-true}
use Rattle.std.proofs.lemmas.Bool.Decides.{nat_tests}
use Rattle.tc_address.specs.declared.count.Count.{Count}
use Rattle.tc_address.specs.declared.count.Count.TheVariants.{C24, C25, C30, Drop30}
use Rattle.tc_address.specs.declared.direction.Direction.TheVariants.{Forward, Backward}
use Rattle.tc_address.specs.Count.{rate_of, system_with}
use Rattle.tc_address.specs.Label.{Address, IsLabel, is_label}
use Rattle.mtc_reader.specs.declared.event.MtcEvent.TheVariants.{Full, RefusedFull}
use Rattle.mtc_reader.specs.declared.message.Message.{Message}
use Rattle.mtc_reader.specs.declared.message.Message.TheVariants.{QuarterFrame, FullMessage}
use Rattle.mtc_reader.specs.declared.message.MessageKind.TheVariants as kinds
use Rattle.mtc_reader.specs.Events.{events_in, event_of, full_event, full_address}
use Rattle.mtc_reader.specs.Events.{window_event, quarter_event, quarter_address, count_with, piece_of, fault_of}
use Rattle.mtc_reader.specs.Laws.{code_of, full_message}
use Rattle.mtc_reader.specs.Messages.{Current, is_data, is_sounding}
use Rattle.mtc_reader.specs.StandsFor.{events_of}
use Rattle.mtc_reader.proofs.AlongTheBytes.{all_along, events_along}
use Rattle.tc_address.specs.LabelLemmas.{label_is}

pub below : (n : ℕ) → n < 0x80 → is_data n ≡ true
below n h = grind (arith, nat_tests)

pub sounds : (n : ℕ) → n < 0x80 → is_sounding n ≡ true
sounds n h = grind (arith, nat_tests)

full_read : (device hr mn sc fr : ℕ) → device < 0x80 → hr < 0x80 → mn < 0x80 → sc < 0x80 → fr < 0x80 →
    events_in (0xf0 ∷ 0x7f ∷ device ∷ 0x01 ∷ 0x01 ∷ hr ∷ mn ∷ sc ∷ fr ∷ 0xf7 ∷ [])
    ≡ full_event (full_address hr mn sc fr) 9 ∷ []
full_read device hr mn sc fr d h m s f =
    all_along (0xf0 ∷ 0x7f ∷ device ∷ 0x01 ∷ 0x01 ∷ hr ∷ mn ∷ sc ∷ fr ∷ 0xf7 ∷ [])
    ∙ rw (
      below device d,
      below hr h,
      below mn m,
      below sc s,
      below fr f,
      sounds device d,
      sounds hr h,
      sounds mn m,
      sounds sc s,
      sounds fr f,
    ) refl

-- a quarter frame of a piece: its data byte
pub record IsQuarter (piece quarter : ℕ) : Type 0 where
  pub is_data_byte : is_data quarter ≡ true
  pub is_no_real_time : is_sounding quarter ≡ true
  pub is_piece : piece_of quarter ≡ piece

quarter_is : (piece quarter bits : ℕ) → piece < 8 → bits < 16 → quarter ≡ 16 * piece + bits → IsQuarter piece quarter
quarter_is piece quarter bits p b is =
    let small : quarter < 0x80 = omega (arith, p, b, is) in
    let over : quarter / 16 ≡ piece = omega (arith, p, b, is) in
    record { is_data_byte = below quarter small; is_no_real_time = sounds quarter small; is_piece = over }

-- two bytes on
abbrev pub on : ℕ → ℕ
on place = place + 1 + 1

-- what comes after a quarter frame
abbrev pub after : ℕ → Current
after quarter = record { kind = kinds.Quarter; numbers = quarter ∷ [] }

pub quarter_step : (place : ℕ) (current : Current) (messages : List Message) (quarter : ℕ) (more : List ℕ)
    → is_data quarter ≡ true
    → is_sounding quarter ≡ true →
    events_along place current messages (0xf1 ∷ quarter ∷ more)
    ≡ events_of (event_of (QuarterFrame quarter) messages (place + 1))
    ++ events_along (place + 1 + 1) (after quarter) (QuarterFrame quarter ∷ messages) more
quarter_step place current messages quarter more is_number is_no_real_time = rw (is_number, is_no_real_time) refl

-- a full message is read from any state
pub full_step : (place : ℕ) (current : Current) (messages : List Message) (device hr mn sc fr : ℕ) (more : List ℕ)
    → device < 0x80 → hr < 0x80 → mn < 0x80 → sc < 0x80 → fr < 0x80
    → events_along place current messages
    (0xf0 ∷ 0x7f ∷ device ∷ 0x01 ∷ 0x01 ∷ hr ∷ mn ∷ sc ∷ fr ∷ 0xf7 ∷ more)
    ≡ full_event (full_address hr mn sc fr) (place + 9)
    ∷ events_along (place + 10) (record { kind = kinds.Other; numbers = [] }) (FullMessage hr mn sc fr ∷ messages) more
full_step place current messages device hr mn sc fr more d h m s f =
    let last = on (on (on (on place))) + 1 in
    let behind = on (on (on (on (on place)))) in
    let later = λ (p : ℕ). events_along p (record { kind = kinds.Other; numbers = [] })
    (FullMessage hr mn sc fr ∷ messages) more in
    let read : events_along place current messages
    (0xf0 ∷ 0x7f ∷ device ∷ 0x01 ∷ 0x01 ∷ hr ∷ mn ∷ sc ∷ fr ∷ 0xf7 ∷ more)
    ≡ full_event (full_address hr mn sc fr) last ∷ later behind =
    rw (
      below device d,
      below hr h,
      below mn m,
      below sc s,
      below fr f,
      sounds device d,
      sounds hr h,
      sounds mn m,
      sounds sc s,
      sounds fr f,
    ) refl in
    let nine : last ≡ place + 9 = omega arith in
    let ten : behind ≡ place + 10 = omega arith in
    read ∙ ap (λ (n : ℕ). full_event (full_address hr mn sc fr) n ∷ later behind) nine
    ∙ ap (λ (n : ℕ). full_event (full_address hr mn sc fr) (place + 9) ∷ later n) ten

pub record IsRow (a b c d e f g h : ℕ) : Type 0 where
  pub first : IsQuarter 0 a
  pub second : IsQuarter 1 b
  pub third : IsQuarter 2 c
  pub fourth : IsQuarter 3 d
  pub fifth : IsQuarter 4 e
  pub sixth : IsQuarter 5 f
  pub seventh : IsQuarter 6 g
  pub eighth : IsQuarter 7 h

abbrev pub IsNumber : ℕ → Type 0
IsNumber n = (is_data n ≡ true) × (is_sounding n ≡ true)

-- quarter frames that came, the latest first
abbrev pub came : List ℕ → List Message
came numbers = map (λ number. QuarterFrame number) numbers

pub rising_window : (place a b c d e f g h : ℕ) → IsRow a b c d e f g h →
    window_event (a ∷ b ∷ c ∷ d ∷ e ∷ f ∷ g ∷ h ∷ []) place
    ≡ Some (quarter_event Forward (quarter_address (a ∷ b ∷ c ∷ d ∷ e ∷ f ∷ g ∷ h ∷ [])) place)
rising_window place a b c d e f g h row =
    rw (
      row.first.is_piece,
      row.second.is_piece,
      row.third.is_piece,
      row.fourth.is_piece,
      row.fifth.is_piece,
      row.sixth.is_piece,
      row.seventh.is_piece,
      row.eighth.is_piece,
    ) refl

pub falling_window : (place a b c d e f g h : ℕ) → IsRow a b c d e f g h →
    window_event (h ∷ g ∷ f ∷ e ∷ d ∷ c ∷ b ∷ a ∷ []) place
    ≡ Some (quarter_event Backward (quarter_address (a ∷ b ∷ c ∷ d ∷ e ∷ f ∷ g ∷ h ∷ [])) place)
falling_window place a b c d e f g h row =
    rw (
      row.first.is_piece,
      row.second.is_piece,
      row.third.is_piece,
      row.fourth.is_piece,
      row.fifth.is_piece,
      row.sixth.is_piece,
      row.seventh.is_piece,
      row.eighth.is_piece,
    ) refl

pub code_below : (count : Count) → code_of count < 4
code_below C24 = omega arith
code_below C25 = omega arith
code_below Drop30 = omega arith
code_below C30 = omega arith

count_back : (count : Count) → count_with (code_of count) ≡ count
count_back C24 = refl
count_back C25 = refl
count_back Drop30 = refl
count_back C30 = refl

rate_below : (count : Count) → rate_of (system_with count) ≤ 30
rate_below C24 = omega arith
rate_below C25 = omega arith
rate_below Drop30 = omega arith
rate_below C30 = omega arith

pub frames_below : (a : Address) → IsLabel a → a.frames < 30
frames_below a l = omega (arith, rate_below a.count, l.frames)

pub full_back : (a : Address) → IsLabel a → full_address (32 * code_of a.count + a.hours) a.minutes a.seconds a.frames
    ≡ a
full_back a l =
    let over : (32 * code_of a.count + a.hours) / 32 ≡ code_of a.count = omega (arith, l.hours) in
    let under : (32 * code_of a.count + a.hours) % 32 ≡ a.hours = omega (arith, l.hours) in
    rw (over, under, count_back a.count) refl

pub full_message_back : (device : ℕ) (a : Address) → device < 0x80 → IsLabel a
    → events_in (full_message device a) ≡ Full a 9 ∷ []
full_message_back device a small l =
    let hours : 32 * code_of a.count + a.hours < 0x80 = omega (arith, l.hours, code_below a.count) in
    full_read device (32 * code_of a.count + a.hours) a.minutes a.seconds a.frames small hours
    (omega (arith, l.minutes)) (omega (arith, l.seconds))
    (omega (arith, frames_below a l)) ∙ ap (λ b. full_event b 9 ∷ []) (full_back a l)
    ∙ ap (λ event. event ∷ []) (cond-true (is_label a) (Full a 9) (RefusedFull (fault_of a) 9) (label_is a l))

quarter_back : (a b c d e f g h : ℕ) (label : Address) → IsLabel label → a ≡ label.frames % 16
    → b ≡ 16 + label.frames / 16
    → c ≡ 32 + label.seconds % 16 → d ≡ 48 + label.seconds / 16 → e ≡ 64 + label.minutes % 16
    → f ≡ 80 + label.minutes / 16
    → g ≡ 96 + label.hours % 16 → h ≡ 112 + (label.hours / 16 + 2 * code_of label.count)
    → quarter_address (a ∷ b ∷ c ∷ d ∷ e ∷ f ∷ g ∷ h ∷ []) ≡ label
quarter_back a b c d e f g h label l ia ib ic id ie if_ ig ih =
    let frames : a % 16 + 16 * (b % 16 % 2) ≡ label.frames = omega (arith, frames_below label l, ia, ib) in
    let seconds : c % 16 + 16 * (d % 16 % 4) ≡ label.seconds = omega (arith, l.seconds, ic, id) in
    let minutes : e % 16 + 16 * (f % 16 % 4) ≡ label.minutes = omega (arith, l.minutes, ie, if_) in
    let hours : g % 16 + 16 * (h % 16 % 2) ≡ label.hours = omega (arith, l.hours, code_below label.count, ig, ih) in
    let code : h % 16 / 2 % 4 ≡ code_of label.count = omega (arith, l.hours, code_below label.count, ih) in
    rw (frames, seconds, minutes, hours, code, count_back label.count) refl

pub row_is : (a : Address) → IsLabel a → IsRow (a.frames % 16) (0x10 + a.frames / 16) (0x20 + a.seconds % 16)
    (0x30 + a.seconds / 16) (0x40 + a.minutes % 16)
    (0x50 + a.minutes / 16) (0x60 + a.hours % 16) (0x70 + (a.hours / 16 + 2 * code_of a.count))
row_is a l = record {
  first = quarter_is 0 (a.frames % 16) (a.frames % 16) (omega arith) (omega arith) (omega arith);
  second = quarter_is 1 (0x10 + a.frames / 16) (a.frames / 16) (omega arith) (omega (arith, frames_below a l))
      (omega arith);
  third = quarter_is 2 (0x20 + a.seconds % 16) (a.seconds % 16) (omega arith) (omega arith) (omega arith);
  fourth = quarter_is 3 (0x30 + a.seconds / 16) (a.seconds / 16) (omega arith) (omega (arith, l.seconds)) (omega arith);
  fifth = quarter_is 4 (0x40 + a.minutes % 16) (a.minutes % 16) (omega arith) (omega arith) (omega arith);
  sixth = quarter_is 5 (0x50 + a.minutes / 16) (a.minutes / 16) (omega arith) (omega (arith, l.minutes)) (omega arith);
  seventh = quarter_is 6 (0x60 + a.hours % 16) (a.hours % 16) (omega arith) (omega arith) (omega arith);
  eighth = quarter_is 7 (0x70 + (a.hours / 16 + 2 * code_of a.count)) (a.hours / 16 + 2 * code_of a.count) (omega arith)
      (omega (arith, l.hours, code_below a.count)) (omega arith);
}

pub address_back : (a : Address) → IsLabel a → quarter_address
    (a.frames % 16 ∷ (0x10 + a.frames / 16) ∷ (0x20 + a.seconds % 16) ∷ (0x30 + a.seconds / 16)
    ∷ (0x40 + a.minutes % 16) ∷ (0x50 + a.minutes / 16) ∷ (0x60 + a.hours % 16) ∷
    (0x70 + (a.hours / 16 + 2 * code_of a.count)) ∷ []) ≡ a
address_back a l = quarter_back _ _ _ _ _ _ _ _ a l refl refl refl refl refl refl refl refl
