-- One to twenty digits are what std reads as a number, since no sign comes before them.
use Rattle.std.proofs.Common.{◌≡◌, ◌≢◌, ◌<◌, ◌&&◌, ◌^◌, ℕ, true, refl, ap, arith}
use Rattle.std.proofs.Common.{[], ◌∷◌, Some, Result, Ok, Err, inl, inr, length, le-ltb, lt-ltb}
use Rattle.std.specs.Prelude.{nat_le, nat_lt}
use Rattle.std.specs.Char.{is_ascii_digit}
use Rattle.std.specs.List.{list_all}
use Rattle.std.specs.Result.{result_ok}
use Rattle.std.specs.Str.Parse.{IsNumeral, ParsesUnsigned, digits_value, without_leading_plus}
use Rattle.std.proofs.lemmas.Bool.{cases_lt, leb-true, and_parts}
use Rattle.std.proofs.lemmas.Str.Parse.{without_leading_plus_none}
use Rattle.forms.specs.Number.{Word, is_number, number_spelled}
use Rattle.lemmas.specs.Digits.{digit_in_range, all_digits}

no_plus : (word : Word) → list_all is_ascii_digit word ≡ true → without_leading_plus word ≡ word
no_plus [] h = refl
no_plus (c ∷ ds) h =
    let within = digit_in_range c (and_parts (is_ascii_digit c) _ h).0 in
    let other : c ≢ 43 = omega (arith, within.0) in
    without_leading_plus_none (c ∷ ds) other

is_numeral : (word : Word) → is_number word ≡ true → IsNumeral 10 (without_leading_plus word)
is_numeral word digits =
    let bounds = (and_parts (nat_lt 0 (length word) && nat_le (length word) 20) _ digits).0 in
    let some : 0 < length word = leb-true 1 (length word) (and_parts (nat_lt 0 (length word)) _ bounds).0 in
    let all = (and_parts (nat_lt 0 (length word) && nat_le (length word) 20) _ digits).1 in
    rw (no_plus word all) (some, all_digits word all)

pub read_number : {E : Type 0} (word : Word) (r : Result ℕ E) → is_number word ≡ true → ParsesUnsigned 64 10 word r
    → result_ok r ≡ number_spelled word
unfolding number_spelled
read_number word (Ok n) digits reads =
    let same = no_plus word (and_parts (nat_lt 0 (length word) && nat_le (length word) 20) _ digits).1 in
    let fits : digits_value 10 word < 2 ^ 64 = rw (← same) reads.0.1 in
    let is : n ≡ digits_value 10 word = rw (← same) reads.1 in
    rw (digits, lt-ltb (digits_value 10 word) (2 ^ 64) fits) (ap (λ m. Some m) is)
read_number word (Err e) digits reads =
    let same = no_plus word (and_parts (nat_lt 0 (length word) && nat_le (length word) 20) _ digits).1 in
    elim (cases_lt (digits_value 10 word) (2 ^ 64)) [
      | inl fits ↦ absurd (reads (is_numeral word digits, rw same fits))
      | inr past ↦ rw (digits, le-ltb (digits_value 10 word) (2 ^ 64) past) refl
    ]
