-- A number that is written in decimal digits is read as that number. No promise speaks of it.
use Rattle.std.proofs.Common.{◌≡◌, ℕ, ◌+◌, ◌<◌, ◌≤◌, ◌^◌, ◌%◌, true, List, [], ◌∷◌, ◌++◌, length, Some, refl}
use Rattle.std.proofs.Common.{arith, lt-ltb}
use Rattle.std.specs.Prelude.{decimal}
use Rattle.std.specs.Char.{is_ascii_digit}
use Rattle.std.specs.List.{list_all}
use Rattle.std.proofs.lemmas.Bool.Decides.{nat_tests}
use Rattle.std.proofs.lemmas.Fmt.{decimal_by_steps, decimal_is_IsNumeral, length-decimal-le}
use Rattle.std.proofs.lemmas.Grind.{common_steps}
use Rattle.std.proofs.lemmas.List.Folds.{list_all-append}
use Rattle.forms.specs.Number.{is_number, number_spelled}

digit_is : (n : ℕ) → n < 10 → is_ascii_digit (48 + n) ≡ true
digit_is n below = grind (arith, common_steps, nat_tests)

one_more : (m : ℕ) (ds : List ℕ) → 10 ≤ m → list_all is_ascii_digit ds ≡ true
    → list_all is_ascii_digit (ds ++ ((48 + m % 10) ∷ [])) ≡ true
one_more m ds least all =
    rw (list_all-append is_ascii_digit ds ((48 + m % 10) ∷ []), all, digit_is (m % 10) (omega arith)) refl

-- what is written are digits
are_digits : (n : ℕ) → n < 2 ^ 64 → list_all is_ascii_digit (decimal n) ≡ true
are_digits n small =
    decimal_by_steps (λ m ds. list_all is_ascii_digit ds ≡ true) (λ m below. rw (digit_is m below) refl) one_more n
    small

-- one to twenty of them
is_written : (n : ℕ) → n < 2 ^ 64 → is_number (decimal n) ≡ true
is_written n small =
    let some : 0 < length (decimal n) = (decimal_is_IsNumeral n small).0.0 in
    let few : length (decimal n) ≤ 20 = length-decimal-le 20 n (omega arith) (omega (arith, small)) small in
    rw (are_digits n small) (grind (arith, nat_tests))

pub number_written : (n : ℕ) → n < 2 ^ 64 → number_spelled (decimal n) ≡ Some n
unfolding number_spelled
number_written n small =
    rw (is_written n small, (decimal_is_IsNumeral n small).1, lt-ltb n (2 ^ 64) small) refl
