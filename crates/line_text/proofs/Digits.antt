-- The decimal digits of a number, two and four at a time, and how many they are at most.
use Rattle.std.proofs.Common.{◌≡◌, ℕ, ◌+◌, ◌/◌, ◌%◌, ◌<◌, ◌≤◌, ◌^◌, [], ◌∷◌, ◌++◌, length, refl, ◌∙◌, ap, append_assoc}
use Rattle.std.proofs.Common.{length-append, arith}
use Rattle.std.specs.Prelude.{decimal}
use Rattle.std.proofs.lemmas.Fmt.{decimal_digit, decimal_step, length-decimal-le}
use Rattle.tc_address.specs.Spelling.{two_digits}

pub digits_of_count : (n : ℕ) → n < 2 ^ 40 → length (decimal n) ≤ 13
digits_of_count n p = length-decimal-le 13 n (omega arith) (omega arith) (omega arith)

pub digits_of_ticks : (n : ℕ) → n < 2 ^ 60 → length (decimal n) ≤ 19
digits_of_ticks n p = length-decimal-le 19 n (omega arith) (omega arith) (omega arith)

pub digits_of_any : (n : ℕ) → n < 2 ^ 64 → length (decimal n) ≤ 20
digits_of_any n p = length-decimal-le 20 n (omega arith) (omega arith) (omega arith)

-- ---- of one digit, of two, and of more

pub one_digit : (n : ℕ) → n < 10 → (decimal n ≡ (48 + n) ∷ []) × (length (decimal n) ≡ 1)
one_digit n small = let is = decimal_digit n small in (is, ap length is)

pub both_digits : (n : ℕ) → 10 ≤ n → n < 100 → (decimal n ≡ two_digits n) × (length (decimal n) ≡ 2)
both_digits n large small =
    let is : decimal n ≡ two_digits n = rw (decimal_step n large (omega arith), decimal_digit (n / 10) (omega arith))
    refl in
    (is, ap length is)

pub last_two : (n : ℕ) → 100 ≤ n → n < 2 ^ 64
    → (decimal n ≡ decimal (n / 100) ++ two_digits (n % 100)) × (length (decimal n) ≡ length (decimal (n / 100)) + 2)
last_two n large fits =
    let a : n / 10 / 10 ≡ n / 100 = omega arith in
    let b : n / 10 % 10 ≡ n % 100 / 10 = omega arith in
    let c : n % 10 ≡ n % 100 % 10 = omega arith in
    let is : decimal n ≡ decimal (n / 100) ++ two_digits (n % 100) =
    rw (decimal_step n (omega arith) fits, decimal_step (n / 10) (omega arith) (omega arith), append_assoc, a, b, ← c)
    refl in
    (is, ap length is ∙ length-append _ _)

pub last_four : (n : ℕ) → 10000 ≤ n → n < 2 ^ 64
    → (decimal n ≡ decimal (n / 10000) ++ (two_digits (n % 10000 / 100) ++ two_digits (n % 100)))
    × (length (decimal n) ≡ length (decimal (n / 10000)) + 4)
last_four n large fits =
    let a : n / 100 / 100 ≡ n / 10000 = omega arith in
    let b : n / 100 % 100 ≡ n % 10000 / 100 = omega arith in
    let is : decimal n ≡ decimal (n / 10000) ++ (two_digits (n % 10000 / 100) ++ two_digits (n % 100)) =
    rw ((last_two n (omega arith) fits).0, (last_two (n / 100) (omega arith) (omega arith)).0, append_assoc, a, b) refl
    in
    (is, ap length is ∙ length-append _ _)
