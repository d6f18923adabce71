-- The first label of a day is midnight, so a label lies as many frames after midnight as its number says; and by real
-- time it comes back from a count as fast or faster.
use Rattle.std.proofs.Common.{◌≡◌, ℕ, ◌+◌, ◌*◌, ◌/◌, ◌%◌, ◌<◌, ◌≤◌, true, false, not, List, ◌∷◌, ◌++◌, refl, sym}
use Rattle.std.proofs.Common.{ap, ap₂, ◌∙◌, subst, arith}
use Rattle.std.specs.Prelude.{codes, decimal, ℤ, pos, slice_get, Some}
use Rattle.std.specs.List.{filter, flat_map, range_with_len}
use Rattle.std.proofs.Math.Nat.{div-add-mod', div-eq_of_lt-le, div-mul-le_self, mod-eq_of_lt, mul_assoc}
use Rattle.std.proofs.Math.Nat.{mul-mod_left, mul-pos, zero-div}
use Rattle.std.proofs.lemmas.Option.{same_Some}
use Rattle.lemmas.specs.Quotients.{behind}
use Rattle.real_time.specs.declared.rate.FrameRate.{FrameRate}
use Rattle.real_time.specs.declared.rate.FrameRate.TheVariants.{R24, PulledDown24, R25, R30, PulledDown30}
use Rattle.real_time.specs.Moment.{IsShown, IsWholeOf, passed_at, shown_at}
use Rattle.real_time.specs.Rate.{frames_in, seconds_of}
use Rattle.tc_address.specs.Circle.{moved}
use Rattle.tc_address.specs.declared.count.Count.{Count}
use Rattle.tc_address.specs.declared.count.Count.TheVariants.{C24, C25, C30, Drop30}
use Rattle.tc_address.specs.Label.{Address, IsLabel, address, addresses, hour_of, is_dropped, labels, minute_of}
use Rattle.tc_address.specs.Label.{second_of}
use Rattle.tc_address.specs.Numbering.{day_length, is_same_time, number_of, step}
use Rattle.tc_address.specs.Spelling.{text_of}
use Rattle.label_lines.specs.Answer.{answer, label_from_midnight}
use Rattle.label_lines.specs.declared.timebase.Timebase.{Timebase}
use Rattle.label_lines.specs.declared.way.Way.TheVariants.{To}
use Rattle.label_lines.specs.Timebase.{count_of, rate_of}
use Rattle.label_command.specs.ThereAndBack.{BeginBefore, BeginTogether, IsAsFast, IsLabelOf}

-- ---- the first label

-- it comes first in a list
record IsFirst (first : Address) (all : List Address) : Type 0 where
  pub rest : List Address
  pub are : all ≡ first ∷ rest

first_of_two : (first : Address) (a b : List Address) → IsFirst first a → IsFirst first (a ++ b)
first_of_two first a b is = record { rest = is.rest ++ b; are = ap (λ (l : List Address). l ++ b) is.are }

in_a_second : (c : Count) (h m s : ℕ) → IsFirst (address c h m s 0) (second_of c h m s)
unfolding second_of
in_a_second C24 h m s = record { rest = _; are = refl }
in_a_second C25 h m s = record { rest = _; are = refl }
in_a_second C30 h m s = record { rest = _; are = refl }
in_a_second Drop30 h m s = record { rest = _; are = refl }

in_a_minute : (c : Count) (h m : ℕ) → IsFirst (address c h m 0 0) (minute_of c h m)
unfolding minute_of
in_a_minute c h m =
    first_of_two (address c h m 0 0) (second_of c h m 0) (flat_map (λ (s : ℕ). second_of c h m s) (range_with_len 1 59))
    (in_a_second c h m 0)

in_an_hour : (c : Count) (h : ℕ) → IsFirst (address c h 0 0 0) (hour_of c h)
unfolding hour_of
in_an_hour c h =
    first_of_two (address c h 0 0 0) (minute_of c h 0) (flat_map (λ (m : ℕ). minute_of c h m) (range_with_len 1 59))
    (in_a_minute c h 0)

in_a_day : (c : Count) → IsFirst (address c 0 0 0 0) (addresses c)
unfolding addresses
in_a_day c =
    first_of_two (address c 0 0 0 0) (hour_of c 0) (flat_map (λ (h : ℕ). hour_of c h) (range_with_len 1 23))
    (in_an_hour c 0)

not_dropped : (c : Count) → is_dropped (address c 0 0 0 0) ≡ false
not_dropped C24 = refl
not_dropped C25 = refl
not_dropped C30 = refl
not_dropped Drop30 = refl

kept_first : (first : Address) (all : List Address) → is_dropped first ≡ false → IsFirst first all
    → IsFirst first (filter (λ a. not (is_dropped a)) all)
kept_first first all kept is = record {
  rest = filter (λ (a : Address). not (is_dropped a)) is.rest;
  are = rw is.are (rw kept refl);
}

first_label : (c : Count) → IsFirst (address c 0 0 0 0) (labels c)
unfolding labels
first_label c = kept_first (address c 0 0 0 0) (addresses c) (not_dropped c) (in_a_day c)

number_of_first : (a : Address) → IsFirst a (labels a.count) → is_same_time a a ≡ true → number_of a ≡ 0
unfolding number_of
number_of_first a is same = rw is.are (rw same refl)

pub midnight_is_first : (c : Count) → number_of (address c 0 0 0 0) ≡ 0
midnight_is_first c = number_of_first (address c 0 0 0 0) (first_label c) refl

-- ---- some frames behind it

-- what the laws of steps say
pub record StepLaws : Type 0 where
  pub number : (a : Address) (steps : ℤ) → number_of (step a steps) ≡ moved (day_length a.count) (number_of a) steps
  pub stepped : (a : Address) (steps : ℤ) → ((step a steps).count ≡ a.count) × IsLabel (step a steps)
  pub label : (a : Address) → IsLabel a → slice_get (labels a.count) (number_of a) ≡ Some a
  pub below : (a : Address) → IsLabel a → number_of a < day_length a.count

pub forward : (n day : ℕ) → n < day → moved day 0 (pos n) ≡ n
forward n day within =
    let same : 0 + n ≡ n = omega arith in ap (λ (k : ℕ). k % day) same ∙ mod-eq_of_lt within

-- a label of the list is the one with its number
pub same_place : StepLaws → (a b : Address) → IsLabel a → IsLabel b → a.count ≡ b.count
    → number_of a ≡ number_of b → a ≡ b
same_place laws a b one other count number =
    same_Some a b
    (sym (laws.label a one) ∙ ap₂ (λ (c : Count) (n : ℕ). slice_get (labels c) n) count number ∙ laws.label b other)

pub behind_midnight : StepLaws → (a : Address) → IsLabel a → label_from_midnight a.count (number_of a) ≡ a
behind_midnight laws a is =
    let midnight = address a.count 0 0 0 0 in
    let n = number_of a in
    let there = laws.stepped midnight (pos n) in
    same_place laws (step midnight (pos n)) a there.1 is there.0
    (laws.number midnight (pos n) ∙ ap (λ (k : ℕ). moved (day_length a.count) k (pos n)) (midnight_is_first a.count)
    ∙ forward n (day_length a.count) (laws.below a is))

-- ---- and back

-- what is whole of a fraction is its quotient
whole_quotient : (over under n : ℕ) → IsWholeOf over under n → over / under ≡ n
whole_quotient over under n is = div-eq_of_lt-le under is.0 is.1

nothing_passed : (over under n : ℕ) → over ≡ n * under → over % under * 1000 / under ≡ 0
nothing_passed over under n is =
    let none : over % under ≡ 0 = ap (λ (k : ℕ). k % under) is ∙ mul-mod_left n under in
    ap (λ (k : ℕ). k * 1000 / under) none ∙ zero-div under

-- what the laws of real time say
pub record RateLaws : Type 0 where
  pub there : (rate other : FrameRate) (frame there : ℕ)
      → frame * seconds_of rate * frames_in other ≡ there * seconds_of other * frames_in rate
      → IsShown other there rate frame 0
  pub behind : (rate other : FrameRate) (frame there passed : ℕ)
      → frames_in rate * seconds_of other ≤ frames_in other * seconds_of rate → IsShown rate frame other there passed
      → there * seconds_of other * frames_in rate < frame * seconds_of rate * frames_in other
      → IsWholeOf ((there + 1) * seconds_of other * frames_in rate) (seconds_of rate * frames_in other) frame

label_shown : StepLaws → (base : Timebase) (label : Address) (frames : ℕ) → IsLabelOf base label
    → frames ≡ number_of label → label_from_midnight (count_of base) frames ≡ label
label_shown laws base label frames is same =
    ap₂ label_from_midnight (sym is.counted) same ∙ behind_midnight laws label is.label_is

pub back_together : StepLaws → RateLaws → (base other : Timebase) (label there : Address) → IsLabelOf base label
    → IsLabelOf other there → BeginTogether other (number_of there) base (number_of label)
    → answer other (To base) there ≡ text_of label ++ codes " " ++ decimal 0
back_together laws rates base other label there is is_there together =
    let under = seconds_of (rate_of base) * frames_in (rate_of other) in
    let over = number_of there * seconds_of (rate_of other) * frames_in (rate_of base) in
    let shown = rates.there (rate_of base) (rate_of other) (number_of label) (number_of there) together in
    let frame = whole_quotient over under (number_of label) shown.shown in
    let whole : over ≡ number_of label * under =
    sym together ∙ mul_assoc (number_of label) (seconds_of (rate_of base)) (frames_in (rate_of other)) in
    ap₂ (λ (a : Address) (n : ℕ). text_of a ++ codes " " ++ decimal n)
    (label_shown laws base label (over / under) is frame) (nothing_passed over under (number_of label) whole)

-- ---- what is shown, as a value

shown_whole : (over under : ℕ) → 0 < under → IsWholeOf over under (over / under)
shown_whole over under some =
    let more = behind over under some in (div-mul-le_self over under, omega (arith, more))

shown_passed : (over under : ℕ) → 0 < under
    → IsWholeOf (over * 1000) under (over / under * 1000 + over % under * 1000 / under)
shown_passed over under some =
    let q = over / under in
    let r = over % under in
    let t = r * 1000 / under in
    let all : q * under + r ≡ over = div-add-mod' over under in
    let part = shown_whole (r * 1000) under some in
    let low : (q * 1000 + t) * under ≡ q * under * 1000 + t * under = grind arith in
    let high : (q * 1000 + t + 1) * under ≡ q * under * 1000 + (t + 1) * under = grind arith in
    (omega (arith, all, part.0, low), omega (arith, all, part.1, high))

some_frames : (rate : FrameRate) → 0 < frames_in rate
some_frames R24 = omega arith
some_frames PulledDown24 = omega arith
some_frames R25 = omega arith
some_frames R30 = omega arith
some_frames PulledDown30 = omega arith

some_seconds : (rate : FrameRate) → 0 < seconds_of rate
some_seconds R24 = omega arith
some_seconds PulledDown24 = omega arith
some_seconds R25 = omega arith
some_seconds R30 = omega arith
some_seconds PulledDown30 = omega arith

is_shown_at : (rate other : FrameRate) (frame : ℕ)
    → IsShown rate frame other (shown_at rate frame other) (passed_at rate frame other)
is_shown_at rate other frame =
    let over = frame * seconds_of rate * frames_in other in
    let under = seconds_of other * frames_in rate in
    let some : 0 < under = mul-pos (some_seconds other) (some_frames rate) in
    record { shown = shown_whole over under some; passed = shown_passed over under some }

pub back_behind : StepLaws → RateLaws → (base other : Timebase) (label there : Address) → IsLabelOf base label
    → IsLabelOf other there → IsAsFast base other → (shown : ℕ) → number_of there ≡ shown + 1
    → shown ≡ shown_at (rate_of base) (number_of label) (rate_of other) → BeginBefore other shown base (number_of label)
    → (passed : ℕ) × (answer other (To base) there ≡ text_of label ++ codes " " ++ decimal passed)
back_behind laws rates base other label there is is_there fast shown next is_shown before =
    let rate = rate_of base in
    let faster = rate_of other in
    let under = seconds_of rate * frames_in faster in
    let here = subst (λ (k : ℕ). IsShown rate (number_of label) faster k (passed_at rate (number_of label) faster))
    (sym is_shown) (is_shown_at rate faster (number_of label)) in
    let whole = rates.behind rate faster (number_of label) shown (passed_at rate (number_of label) faster) fast here
    before
    in
    let frame = whole_quotient ((shown + 1) * seconds_of faster * frames_in rate) under (number_of label) whole in
    let same : number_of there * seconds_of faster * frames_in rate / under ≡ number_of label =
    ap (λ (k : ℕ). k * seconds_of faster * frames_in rate / under) next ∙ frame in (
      passed_at faster (number_of there) rate,
      ap (λ (a : Address). text_of a ++ codes " " ++ decimal (passed_at faster (number_of there) rate))
          (label_shown laws base label (number_of there * seconds_of faster * frames_in rate / under) is same),
    )
