-- Seconds are the digits before a point and the three behind it, so they are read as the milliseconds that they were
-- written of.
use Rattle.std.proofs.Common.{◌≡◌, ℕ, ◌+◌, ◌-◌, ◌*◌, ◌/◌, ◌%◌, ◌<◌, ◌≤◌, ◌^◌, Bool, true, false, List, [], ◌∷◌, ◌++◌}
use Rattle.std.proofs.Common.{length, take, drop}
use Rattle.std.proofs.Common.{refl, ◌∙◌, ap, sym, subst, arith, append_assoc, length-append}
use Rattle.std.specs.Prelude.{decimal, ◌&&◌, ◌==◌, nat_le, slice_index}
use Rattle.std.specs.Char.{is_ascii_digit}
use Rattle.std.specs.List.{list_all}
use Rattle.std.specs.Str.Parse.{digits_value}
use Rattle.std.proofs.Math.Seq.{drop-append-add, take-append_seam}
use Rattle.std.proofs.lemmas.Bool.Decides.{nat_tests}
use Rattle.std.proofs.lemmas.Fmt.{decimal_nonempty, length-decimal-le}
use Rattle.std.proofs.lemmas.List.Folds.{list_all-append}
use Rattle.std.proofs.lemmas.Str.{digit_value_digit}
use Rattle.label_lines.specs.Answer.{seconds_text}
use Rattle.label_lines.specs.Line.{is_number, is_seconds, milliseconds_in}
use Rattle.label_lines.proofs.WrittenDigits.{digit_passes, written_digits, written_value}

-- ---- a point is no digit, so seconds are no number

none_pass : (a b c : Bool) → (a && b && (c && false)) ≡ false
none_pass false b c = refl
none_pass true false c = refl
none_pass true true false = refl
none_pass true true true = refl

pub point_is_no_digit : (whole rest : List ℕ) → is_number (whole ++ 46 ∷ rest) ≡ false
point_is_no_digit whole rest =
    rw (list_all-append is_ascii_digit whole (46 ∷ rest))
    (none_pass (nat_le 1 (length (whole ++ 46 ∷ rest))) (nat_le (length (whole ++ 46 ∷ rest)) 7)
    (list_all is_ascii_digit whole))

-- ---- the parts of seconds

-- a whole part, a point and three bytes
abbrev pointed : List ℕ → ℕ → ℕ → ℕ → List ℕ
pointed whole a b c = whole ++ 46 ∷ a ∷ b ∷ c ∷ []

-- four bytes more than the whole part
long : (whole : List ℕ) (a b c : ℕ) → length (pointed whole a b c) ≡ length whole + 4
long whole a b c = length-append whole (46 ∷ a ∷ b ∷ c ∷ [])

-- what comes in front of the last four bytes, the first of these, and the last three
front_part : (whole : List ℕ) (a b c : ℕ)
    → take (length (pointed whole a b c) - 4) (pointed whole a b c) ≡ whole
front_part whole a b c =
    let less : length (pointed whole a b c) - 4 ≡ length whole = omega (arith, long whole a b c) in
    ap (λ (n : ℕ). take n (pointed whole a b c)) less ∙ take-append_seam whole (46 ∷ a ∷ b ∷ c ∷ [])

last_part : (whole : List ℕ) (a b c : ℕ)
    → drop (length (pointed whole a b c) - 3) (pointed whole a b c) ≡ a ∷ b ∷ c ∷ []
last_part whole a b c =
    let less : length (pointed whole a b c) - 3 ≡ length whole + 1 = omega (arith, long whole a b c) in
    ap (λ (n : ℕ). drop n (pointed whole a b c)) less ∙ drop-append-add whole (46 ∷ a ∷ b ∷ c ∷ []) 1

point_at : (whole : List ℕ) (more : List ℕ) → slice_index (whole ++ 46 ∷ more) (length whole) ≡ 46
point_at [] more = refl
point_at (c ∷ whole) more = point_at whole more

point_part : (whole : List ℕ) (a b c : ℕ)
    → slice_index (pointed whole a b c) (length (pointed whole a b c) - 4) ≡ 46
point_part whole a b c =
    let less : length (pointed whole a b c) - 4 ≡ length whole = omega (arith, long whole a b c) in
    ap (λ (n : ℕ). slice_index (pointed whole a b c) n) less ∙ point_at whole (a ∷ b ∷ c ∷ [])

-- ---- of a whole part of five digits at most

tests_pass : (n : ℕ) (front point last : Bool) → 5 ≤ n → n ≤ 9 → front ≡ true → point ≡ true → last ≡ true
    → (nat_le 5 n && nat_le n 9 && front && point && last) ≡ true
tests_pass n front point last least most f p l = rw (f, p, l) (grind (arith, nat_tests))

pub are_seconds : (whole : List ℕ) (a b c : ℕ) → 1 ≤ length whole → length whole ≤ 5
    → list_all is_ascii_digit whole ≡ true → list_all is_ascii_digit (a ∷ b ∷ c ∷ []) ≡ true
    → is_seconds (pointed whole a b c) ≡ true
are_seconds whole a b c least most digits last =
    tests_pass (length (pointed whole a b c)) _ _ _
    (omega (arith, long whole a b c)) (omega (arith, long whole a b c))
    (ap (list_all is_ascii_digit) (front_part whole a b c) ∙ digits)
    (ap (λ (n : ℕ). n == 46) (point_part whole a b c))
    (ap (list_all is_ascii_digit) (last_part whole a b c) ∙ last)

pub their_milliseconds : (whole : List ℕ) (a b c : ℕ)
    → milliseconds_in (pointed whole a b c) ≡ 1000 * digits_value 10 whole + digits_value 10 (a ∷ b ∷ c ∷ [])
their_milliseconds whole a b c =
    ap (λ (l : List ℕ). 1000 * digits_value 10 l + digits_value 10
    (drop (length (pointed whole a b c) - 3) (pointed whole a b c)))
    (front_part whole a b c)
    ∙ ap (λ (l : List ℕ). 1000 * digits_value 10 whole + digits_value 10 l) (last_part whole a b c)

-- ---- of milliseconds

three_digits : (x y z : ℕ) → x < 10 → y < 10 → z < 10
    → (list_all is_ascii_digit ((48 + x) ∷ (48 + y) ∷ (48 + z) ∷ []) ≡ true)
    × (digits_value 10 ((48 + x) ∷ (48 + y) ∷ (48 + z) ∷ []) ≡ 100 * x + 10 * y + z)
three_digits x y z p q r =
    let a = digit_value_digit (48 + x) (omega arith, omega arith) in
    let b = digit_value_digit (48 + y) (omega arith, omega arith) in
    let c = digit_value_digit (48 + z) (omega arith, omega arith) in (
      rw (
        digit_passes (48 + x) (omega arith) (omega arith),
        digit_passes (48 + y) (omega arith) (omega arith),
        digit_passes (48 + z) (omega arith) (omega arith),
      ) refl,
      omega (arith, a, b, c),
    )

-- the text of milliseconds in parts
their_text : (m : ℕ) → seconds_text m
    ≡ pointed (decimal (m / 1000)) (48 + m % 1000 / 100) (48 + m % 100 / 10) (48 + m % 100 % 10)
their_text m =
    append_assoc (decimal (m / 1000)) (46 ∷ [])
    ((48 + m % 1000 / 100) ∷ (48 + m % 100 / 10) ∷ (48 + m % 100 % 10) ∷ [])

pub seconds_are_read : (m : ℕ) → m < 100_000_000
    → (is_number (seconds_text m) ≡ false) × (is_seconds (seconds_text m) ≡ true)
    × (milliseconds_in (seconds_text m) ≡ m)
seconds_are_read m fits =
    let small : m / 1000 < 2 ^ 64 = omega arith in
    let three = three_digits (m % 1000 / 100) (m % 100 / 10) (m % 100 % 10) (omega arith) (omega arith) (omega arith) in
    let value = written_value (m / 1000) small in
    let few = length-decimal-le 5 (m / 1000) (omega arith) (omega arith) small in
    subst (λ (l : List ℕ). (is_number l ≡ false) × (is_seconds l ≡ true) × (milliseconds_in l ≡ m))
    (sym (their_text m)) (
      point_is_no_digit (decimal (m / 1000)) ((48 + m % 1000 / 100) ∷ (48 + m % 100 / 10) ∷ (48 + m % 100 % 10) ∷ []),
      are_seconds (decimal (m / 1000)) (48 + m % 1000 / 100) (48 + m % 100 / 10) (48 + m % 100 % 10)
          (decimal_nonempty (m / 1000) small) few (written_digits (m / 1000) small) three.0,
      their_milliseconds (decimal (m / 1000)) (48 + m % 1000 / 100) (48 + m % 100 / 10) (48 + m % 100 % 10)
          ∙ omega (arith, value, three.1),
    )
