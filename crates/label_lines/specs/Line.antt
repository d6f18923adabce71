-- What a line says, without its newline: a label of the count, by its text, its number or its time; and the first
-- column that does not fit. Its forms are this project's own.
use Rattle.std.specs.Prelude.{ℕ, ◌+◌, ◌-◌, ◌*◌, Bool, ◌&&◌, ◌||◌, ◌==◌, nat_le, if◌then◌else◌, List, ◌∷◌, length}
use Rattle.std.specs.Prelude.{take, drop, slice_get, slice_index, Option, Some, None, Result, Ok, Err}
use Rattle.std.specs.Char.{is_ascii_digit}
use Rattle.std.specs.List.{list_all}
use Rattle.std.specs.Str.Parse.{digits_value}
use Rattle.real_time.specs.Moment.{frame_at}
use Rattle.tc_address.specs.declared.count.Count.{Count}
use Rattle.tc_address.specs.Label.{Address, labels}
use Rattle.tc_address.specs.Spelling.{address_in, label_in}
use Rattle.label_lines.specs.declared.timebase.Timebase.{Timebase}
use Rattle.label_lines.specs.Forms.{fitting, fitting_one, forms, label_form}
use Rattle.label_lines.specs.Timebase.{count_of, rate_of}

-- one to seven digits
abbrev pub is_number : List ℕ → Bool
is_number line = nat_le 1 (length line) && nat_le (length line) 7 && list_all is_ascii_digit line

-- one to five digits, a point and three digits
abbrev pub is_seconds : List ℕ → Bool
is_seconds line =
    nat_le 5 (length line) && nat_le (length line) 9 && list_all is_ascii_digit (take (length line - 4) line)
    && (slice_index line (length line - 4) == 46) && list_all is_ascii_digit (drop (length line - 3) line)

-- the milliseconds that they say
abbrev pub milliseconds_in : List ℕ → ℕ
milliseconds_in line =
    1000 * digits_value 10 (take (length line - 4) line) + digits_value 10 (drop (length line - 3) line)

-- the label that a line says: the one of the day with this number, the one whose frame begins nearest to these seconds,
-- or the one that has this text
abbrev pub asked : Timebase → List ℕ → Option Address
asked base line =
    if is_number line then slice_get (labels (count_of base)) (digits_value 10 line)
    else if is_seconds line then slice_get (labels (count_of base)) (frame_at (rate_of base) (milliseconds_in line))
    else label_in (count_of base) line

-- eleven bytes with digits and separators as a label of the count has them
abbrev pub has_label_form : Count → List ℕ → Bool
has_label_form count line = (length line == 11) && (fitting (label_form count) line == 11)

-- where the part stands that no label has, or that is dropped
abbrev pub part_column : Address → ℕ
part_column a =
    if nat_le 24 a.hours then 1 else if nat_le 60 a.minutes then 4 else if nat_le 60 a.seconds then 7 else 10

-- the first column that does not fit, from 1. A number and seconds that have their form do not fit as a whole, and a
-- label does not by a part of it
abbrev pub wrong_column : Count → List ℕ → ℕ
wrong_column count line =
    if is_number line || is_seconds line then 1
    else if has_label_form count line then part_column (address_in count line)
    else 1 + fitting_one (label_form count ∷ forms) line

-- a label that there is, and else the column
abbrev pub label_or : ℕ → Option Address → Result Address ℕ
label_or column None = Err column
label_or column (Some label) = Ok label

-- what a line says, and else the column
unfoldable pub read_line : Timebase → List ℕ → Result Address ℕ
read_line base line = label_or (wrong_column (count_of base) line) (asked base line)
