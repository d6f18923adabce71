-- A number that is written in digits.
use Rattle.std.specs.Prelude.{ℕ, ◌^◌, Bool, ◌&&◌, List, length, Option, Some, None, if◌then◌else◌, nat_lt, nat_le}
use Rattle.std.specs.Prelude.{option_and_then}
use Rattle.std.specs.Char.{is_ascii_digit}
use Rattle.std.specs.List.{list_all}
use Rattle.std.specs.Str.Parse.{digits_value}

-- the bytes of a word
abbrev pub Word : Type 0
Word = List ℕ

-- one to twenty digits
abbrev pub is_number : Word → Bool
is_number word = nat_lt 0 (length word) && nat_le (length word) 20 && list_all is_ascii_digit word

-- the number that the digits write, if it is below 2^64
unfoldable pub number_spelled : Word → Option ℕ
number_spelled word =
    if is_number word && nat_lt (digits_value 10 word) (2 ^ 64) then Some (digits_value 10 word) else None

-- a number of this range
unfoldable pub between : ℕ → ℕ → Word → Option ℕ
between least greatest word =
    option_and_then (λ n. if nat_le least n && nat_le n greatest then Some n else None) (number_spelled word)
