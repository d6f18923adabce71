-- What tests of decimal digits say.
use Rattle.std.proofs.Common.{◌≡◌, ℕ, ◌<◌, true, List, [], ◌∷◌, arith}
use Rattle.std.specs.Char.{is_ascii_digit, digit_value}
use Rattle.std.specs.Int.{IsInRange}
use Rattle.std.specs.List.{list_all}
use Rattle.std.specs.Str.Parse.{AllDigits}
use Rattle.std.proofs.lemmas.Bool.{and_parts}
use Rattle.std.proofs.lemmas.Grind.{common_steps}
use Rattle.std.proofs.lemmas.Str.{digit_value_digit}

pub digit_in_range : (c : ℕ) → is_ascii_digit c ≡ true → IsInRange 48 57 c
digit_in_range c h = grind (arith, common_steps)

digit_below_ten : (c : ℕ) → is_ascii_digit c ≡ true → digit_value c < 10
digit_below_ten c h =
    let within = digit_in_range c h in
    omega (arith, digit_value_digit c within, within.0, within.1)

pub all_digits : (ds : List ℕ) → list_all is_ascii_digit ds ≡ true → AllDigits 10 ds
all_digits [] h = tt
all_digits (c ∷ ds) h =
    let parts = and_parts (is_ascii_digit c) (list_all is_ascii_digit ds) h in
    (digit_below_ten c parts.0, all_digits ds parts.1)
