-- A label is read from its text, which has eleven bytes, and from its number, which has seven digits at most.
use Rattle.std.proofs.Common.{◌≡◌, ℕ, ◌<◌, ◌≤◌, ◌^◌, true, false, List, length, refl, ◌∙◌, ap, arith}
use Rattle.std.specs.Prelude.{decimal, slice_get, Some, Ok}
use Rattle.std.specs.Char.{is_ascii_digit}
use Rattle.std.specs.List.{list_all}
use Rattle.std.specs.Str.Parse.{digits_value}
use Rattle.std.proofs.lemmas.Bool.Decides.{nat_tests}
use Rattle.std.proofs.lemmas.Fmt.{decimal_nonempty, length-decimal-le}
use Rattle.real_time.specs.Moment.{frame_at, millisecond_at}
use Rattle.tc_address.specs.declared.count.Count.{Count}
use Rattle.tc_address.specs.declared.count.Count.TheVariants as counts
use Rattle.tc_address.specs.Label.{Address, labels}
use Rattle.tc_address.specs.Numbering.{day_length}
use Rattle.tc_address.specs.Spelling.{label_in, text_of}
use Rattle.label_lines.specs.declared.timebase.Timebase.{Timebase}
use Rattle.label_lines.specs.Line.{asked, is_number, is_seconds, label_or, milliseconds_in, read_line, wrong_column}
use Rattle.label_lines.specs.declared.timebase.Timebase.TheVariants.{F24, PulledDown24, F25, F30, PulledDown30, Drop30}
use Rattle.label_lines.specs.Answer.{seconds_text}
use Rattle.label_lines.specs.Timebase.{count_of, rate_of}
use Rattle.label_lines.proofs.Choices.{label_is_asked}
use Rattle.label_lines.proofs.WrittenDigits.{written_digits, written_value}
use Rattle.label_lines.proofs.WrittenSeconds.{seconds_are_read}

-- what is asked for is read
pub asked_is_read : (base : Timebase) (line : List ℕ) (a : Address) → asked base line ≡ Some a
    → read_line base line ≡ Ok a
unfolding read_line
asked_is_read base line a is = ap (label_or (wrong_column (count_of base) line)) is

pub text_is_read : (base : Timebase) (a : Address) → label_in (count_of base) (text_of a) ≡ Some a
    → read_line base (text_of a) ≡ Ok a
text_is_read base a is =
    asked_is_read base (text_of a) a (label_is_asked base (text_of a) refl refl ∙ is)

-- a number of seven digits at most
number_passes : (line : List ℕ) → 0 < length line → length line ≤ 7 → list_all is_ascii_digit line ≡ true
    → is_number line ≡ true
number_passes line some few digits = rw digits (grind (arith, nat_tests))

number_is_asked : (base : Timebase) (line : List ℕ) → is_number line ≡ true
    → asked base line ≡ slice_get (labels (count_of base)) (digits_value 10 line)
number_is_asked base line number = rw number refl

pub number_is_read : (base : Timebase) (a : Address) (n : ℕ) → n < 10_000_000
    → slice_get (labels (count_of base)) n ≡ Some a → read_line base (decimal n) ≡ Ok a
number_is_read base a n few is =
    let fits : n < 2 ^ 64 = omega arith in
    let number = number_passes (decimal n) (decimal_nonempty n fits)
    (length-decimal-le 7 n (omega arith) (omega arith) fits) (written_digits n fits) in
    asked_is_read base (decimal n) a (number_is_asked base (decimal n) number
    ∙ ap (slice_get (labels (count_of base))) (written_value n fits) ∙ is)

-- seconds, if the frame is the one that begins nearest to them
seconds_are_asked : (base : Timebase) (line : List ℕ) → is_number line ≡ false → is_seconds line ≡ true
    → asked base line ≡ slice_get (labels (count_of base)) (frame_at (rate_of base) (milliseconds_in line))
seconds_are_asked base line number seconds = rw (number, seconds) refl

pub seconds_are_read_as : (base : Timebase) (a : Address) (m n : ℕ) → m < 100_000_000 → frame_at (rate_of base) m ≡ n
    → slice_get (labels (count_of base)) n ≡ Some a → read_line base (seconds_text m) ≡ Ok a
seconds_are_read_as base a m n few frame is =
    let read = seconds_are_read m few in
    asked_is_read base (seconds_text m) a (seconds_are_asked base (seconds_text m) read.0 read.1
    ∙ ap (λ (k : ℕ). slice_get (labels (count_of base)) (frame_at (rate_of base) k)) read.2
    ∙ ap (slice_get (labels (count_of base))) frame ∙ is)

-- the labels of a day begin within 100,000 seconds
pub within_five_digits : (base : Timebase) (n : ℕ) → n < day_length (count_of base)
    → millisecond_at (rate_of base) n < 100_000_000
within_five_digits F24 n below = omega arith
within_five_digits PulledDown24 n below = omega arith
within_five_digits F25 n below = omega arith
within_five_digits F30 n below = omega arith
within_five_digits PulledDown30 n below = omega arith
within_five_digits Drop30 n below = omega arith

-- a day has fewer labels than seven digits say
pub seven_digits : (count : Count) (n : ℕ) → n < day_length count → n < 10_000_000
seven_digits counts.C24 n below = omega arith
seven_digits counts.C25 n below = omega arith
seven_digits counts.C30 n below = omega arith
seven_digits counts.Drop30 n below = omega arith
