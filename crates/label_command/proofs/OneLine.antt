-- An answer has digits, separators, a point, a sign and a space, so it is a line, and it is not empty.
use Rattle.std.proofs.Common.{◌≡◌, ℕ, zero, suc, ◌+◌, ◌*◌, ◌-◌, ◌/◌, ◌%◌, ◌<◌, ◌≤◌, ◌^◌, Bool, true, false, cond, List}
use Rattle.std.proofs.Common.{[], ◌∷◌, ◌++◌, length, arith, nat_le, refl}
use Rattle.std.specs.Prelude.{◌≢◌, pos, neg_ℤ, decimal}
use Rattle.std.specs.Fmt.{signed_decimal}
use Rattle.std.specs.List.{AllByRecursion}
use Rattle.std.specs.Str.Parse.{AllDigits, digits_value}
use Rattle.std.proofs.Math.Nat.{div-le_self, mod-lt}
use Rattle.std.proofs.lemmas.Fmt.{decimal_nonempty, digits_decimal}
use Rattle.std.proofs.lemmas.Str.Parse.{IsNumeralModel, digit_from_value}
use Rattle.real_time.specs.declared.rate.FrameRate.{FrameRate}
use Rattle.real_time.specs.declared.rate.FrameRate.TheVariants as rates
use Rattle.real_time.specs.Moment.{millisecond_at, passed_at, shown_at}
use Rattle.real_time.specs.Rate.{frames_in, seconds_of}
use Rattle.tc_address.specs.Circle.{ahead, shortest_way}
use Rattle.tc_address.specs.declared.count.Count.{Count}
use Rattle.tc_address.specs.declared.count.Count.TheVariants as counts
use Rattle.tc_address.specs.Label.{Address}
use Rattle.tc_address.specs.Numbering.{day_length, number_of, step}
use Rattle.tc_address.specs.Spelling.{separator, text_of, two_digits}
use Rattle.label_lines.specs.Answer.{answer, label_from_midnight, length_text, seconds_text, shown_text}
use Rattle.label_lines.specs.Answer.{since_text}
use Rattle.label_lines.specs.declared.timebase.Timebase.{Timebase}
use Rattle.label_lines.specs.declared.timebase.Timebase.TheVariants.{F24, PulledDown24, F25, F30, PulledDown30, Drop30}
use Rattle.label_lines.specs.declared.way.Way.{Way}
use Rattle.label_lines.specs.declared.way.Way.TheVariants as ways
use Rattle.label_lines.specs.Timebase.{count_of, rate_of}
use Rattle.label_command.specs.TextLines.{IsLine}

-- ---- its pieces

two_lines : (P : ℕ → Type 0) (a b : List ℕ) → AllByRecursion P a → AllByRecursion P b → AllByRecursion P (a ++ b)
two_lines P [] b all more = more
two_lines P (x ∷ a) b all more = (all.0, two_lines P a b all.1 more)

own : IsNumeralModel (AllDigits 10) (digits_value 10)
own = record { to = λ ds h. h; from = λ ds h. h; same = λ ds h. refl }

digits_no_newline : (ds : List ℕ) → AllDigits 10 ds → IsLine ds
digits_no_newline [] all = tt
digits_no_newline (c ∷ ds) all =
    let range = digit_from_value c all.0 in
    let least = range.0 in
    ((λ newline. omega (arith, newline, least)), digits_no_newline ds all.1)

number_no_newline : (n : ℕ) → n < 2 ^ 64 → IsLine (decimal n)
number_no_newline n fits = digits_no_newline (decimal n) (digits_decimal own n fits)

-- the byte is no newline
abbrev IsOther : ℕ → Type 0
IsOther byte = byte ≢ 10

above : (n : ℕ) → IsOther (48 + n)
above n newline = omega (arith, newline)

point : IsOther 46
point newline = omega (arith, newline)

colon : IsOther 58
colon newline = omega (arith, newline)

mark : (count : Count) → IsOther (separator count)
mark counts.C24 newline = omega (arith, newline)
mark counts.C25 newline = omega (arith, newline)
mark counts.C30 newline = omega (arith, newline)
mark counts.Drop30 newline = omega (arith, newline)

digits_no_newline_in : (n : ℕ) → IsLine (two_digits n)
digits_no_newline_in n = (above (n / 10), (above (n % 10), tt))

pub text_no_newline : (a : Address) → IsLine (text_of a)
text_no_newline a = (
  above (a.hours / 10),
  (
    above (a.hours % 10),
    (
      colon,
      (
        above (a.minutes / 10),
        (
          above (a.minutes % 10),
          (
            colon,
            (
              above (a.seconds / 10),
              (above (a.seconds % 10), (mark a.count, digits_no_newline_in a.frames)),
            ),
          ),
        ),
      ),
    ),
  ),
)

seconds_no_newline : (m : ℕ) → m < 2 ^ 64 → IsLine (seconds_text m)
seconds_no_newline m fits =
    two_lines IsOther (decimal (m / 1000) ++ 46 ∷ []) ((48 + m % 1000 / 100) ∷ two_digits (m % 100))
    (two_lines IsOther (decimal (m / 1000)) (46 ∷ []) (number_no_newline (m / 1000) (omega (arith, fits))) (point, tt))
    (above (m % 1000 / 100), digits_no_newline_in (m % 100))

-- a frame of the day begins at a millisecond below 2 to the 64th
few_milliseconds : (base : Timebase) (n : ℕ) → n < day_length (count_of base)
    → millisecond_at (rate_of base) n < 2 ^ 64
few_milliseconds F24 n below = omega (arith, below)
few_milliseconds PulledDown24 n below = omega (arith, below)
few_milliseconds F25 n below = omega (arith, below)
few_milliseconds F30 n below = omega (arith, below)
few_milliseconds PulledDown30 n below = omega (arith, below)
few_milliseconds Drop30 n below = omega (arith, below)

few_labels : (count : Count) (n : ℕ) → n < day_length count → n < 2 ^ 64
few_labels counts.C24 n below = omega (arith, below)
few_labels counts.C25 n below = omega (arith, below)
few_labels counts.C30 n below = omega (arith, below)
few_labels counts.Drop30 n below = omega (arith, below)

space : IsOther 32
space newline = omega (arith, newline)

dash : IsOther 45
dash newline = omega (arith, newline)

-- ---- the way from a label, and what another count shows

few_ahead : (count : Count) (n : ℕ) → n % day_length count < 2 ^ 64
few_ahead counts.C24 n = omega arith
few_ahead counts.C25 n = omega arith
few_ahead counts.C30 n = omega arith
few_ahead counts.Drop30 n = omega arith

few_back : (count : Count) (n : ℕ) → day_length count - n < 2 ^ 64
few_back counts.C24 n = omega arith
few_back counts.C25 n = omega arith
few_back counts.C30 n = omega arith
few_back counts.Drop30 n = omega arith

signed_no_newline : (forward : Bool) (n m : ℕ) → n < 2 ^ 64 → m < 2 ^ 64
    → IsLine (signed_decimal (cond forward (pos n) (neg_ℤ (pos m))))
signed_no_newline true n m few back = number_no_newline n few
signed_no_newline false n zero few back = number_no_newline 0 back
signed_no_newline false n (suc m) few back = (dash, number_no_newline (suc m) back)

since_no_newline : (from to : Address) → IsLine (since_text from to)
since_no_newline from to =
    let day = day_length to.count in
    let far = ahead day (number_of from) (number_of to) in
    let few : far < 2 ^ 64 = few_ahead to.count (number_of to + (day - number_of from)) in
    let way = signed_decimal (shortest_way day (number_of from) (number_of to)) in
    two_lines IsOther (way ++ 32 ∷ []) (decimal far)
    (two_lines IsOther way (32 ∷ []) (signed_no_newline (nat_le (2 * far) day) far (day - far) few
    (few_back to.count far)) (space, tt)) (number_no_newline far few)

length_no_newline : (from to : Address)
    → IsLine (length_text to.count (ahead (day_length to.count) (number_of from) (number_of to)))
length_no_newline from to =
    let day = day_length to.count in
    let far = ahead day (number_of from) (number_of to) in
    two_lines IsOther (text_of (label_from_midnight to.count far)) (32 ∷ decimal far) (text_no_newline _)
    (space, number_no_newline far (few_ahead to.count (number_of to + (day - number_of from))))

seconds_between : (rate : FrameRate) → (1 ≤ seconds_of rate) × (seconds_of rate ≤ 1001)
seconds_between rates.R24 = (omega arith, omega arith)
seconds_between rates.PulledDown24 = (omega arith, omega arith)
seconds_between rates.R25 = (omega arith, omega arith)
seconds_between rates.R30 = (omega arith, omega arith)
seconds_between rates.PulledDown30 = (omega arith, omega arith)

under_between : (rate other : FrameRate) → (0 < seconds_of other * frames_in rate)
    × (seconds_of other * frames_in rate ≤ 30_030_000)
under_between rate other = by_rate rate (seconds_of other) (seconds_between other).0 (seconds_between other).1
  where
    by_rate : (rate : FrameRate) (seconds : ℕ) → 1 ≤ seconds → seconds ≤ 1001
        → (0 < seconds * frames_in rate) × (seconds * frames_in rate ≤ 30_030_000)
    by_rate rates.R24 seconds some few = (omega (arith, some), omega (arith, few))
    by_rate rates.PulledDown24 seconds some few = (omega (arith, some), omega (arith, few))
    by_rate rates.R25 seconds some few = (omega (arith, some), omega (arith, few))
    by_rate rates.R30 seconds some few = (omega (arith, some), omega (arith, few))
    by_rate rates.PulledDown30 seconds some few = (omega (arith, some), omega (arith, few))

few_passed : (rate other : FrameRate) (frame : ℕ) → passed_at rate frame other < 2 ^ 64
few_passed rate other frame =
    let under = under_between rate other in
    few (frame * seconds_of rate * frames_in other) (seconds_of other * frames_in rate) under.0 under.1
  where
    few : (over under : ℕ) → 0 < under → under ≤ 30_030_000 → over % under * 1000 / under < 2 ^ 64
    few over under some most =
        let rest = mod-lt over some in
        let part = div-le_self (over % under * 1000) under in
        omega (arith, rest, part, most)

shown_no_newline : (rate : FrameRate) (frame : ℕ) (other : Timebase) → IsLine (shown_text rate frame other)
shown_no_newline rate frame other =
    two_lines IsOther (text_of (label_from_midnight (count_of other) (shown_at rate frame (rate_of other))))
    (32 ∷ decimal (passed_at rate frame (rate_of other))) (text_no_newline _)
    (space, number_no_newline _ (few_passed rate (rate_of other) frame))

-- ---- an answer

pub answer_is_a_line : (base : Timebase) (way : Way) (a : Address) → number_of a < day_length a.count
    → a.count ≡ count_of base → IsLine (answer base way a)
answer_is_a_line base ways.Number a below is = number_no_newline (number_of a) (few_labels a.count (number_of a) below)
answer_is_a_line base ways.Label a below is = text_no_newline a
answer_is_a_line base (ways.Plus steps) a below is = text_no_newline (step a (pos steps))
answer_is_a_line base (ways.Minus steps) a below is = text_no_newline (step a (neg_ℤ (pos steps)))
answer_is_a_line base ways.Seconds a below is =
    let within : number_of a < day_length (count_of base) = rw (← is) below in
    seconds_no_newline (millisecond_at (rate_of base) (number_of a)) (few_milliseconds base (number_of a) within)
answer_is_a_line base (ways.Since other) a below is = since_no_newline other a
answer_is_a_line base (ways.Length other) a below is = length_no_newline other a
answer_is_a_line base (ways.To other) a below is = shown_no_newline (rate_of base) (number_of a) other

some_behind : (a b : List ℕ) (byte : ℕ) → 0 < length ((a ++ byte ∷ []) ++ b)
some_behind [] b byte = omega arith
some_behind (first ∷ a) b byte = omega arith

pub answer_is_some : (base : Timebase) (way : Way) (a : Address) → number_of a < day_length a.count
    → 0 < length (answer base way a)
answer_is_some base ways.Number a below = decimal_nonempty (number_of a) (few_labels a.count (number_of a) below)
answer_is_some base ways.Label a below = omega arith
answer_is_some base (ways.Plus steps) a below = omega arith
answer_is_some base (ways.Minus steps) a below = omega arith
answer_is_some base ways.Seconds a below = some_behind (decimal (millisecond_at (rate_of base) (number_of a) / 1000)) _ 46
answer_is_some base (ways.Since other) a below =
    some_behind (signed_decimal (shortest_way (day_length a.count) (number_of other) (number_of a)))
    (decimal (ahead (day_length a.count) (number_of other) (number_of a))) 32
answer_is_some base (ways.Length other) a below = omega arith
answer_is_some base (ways.To other) a below = omega arith
