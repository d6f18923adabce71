-- What some digits write at most.
use Rattle.std.proofs.Common.{◌≡◌, ℕ, zero, suc, ◌<◌, ◌≤◌, ◌+◌, ◌-◌, ◌*◌, ◌^◌, true, List, [], ◌∷◌, length, take}
use Rattle.std.proofs.Common.{get_or, arith}
use Rattle.std.specs.Char.{is_ascii_digit}
use Rattle.std.specs.Int.{IsInRange}
use Rattle.std.specs.List.{list_all}
use Rattle.std.specs.Str.Parse.{digits_value}
use Rattle.std.proofs.Math.Nat.{pow-le-pow_right}
use Rattle.std.proofs.lemmas.Int.Digits.{digits_value-lt, digits_value_more}
use Rattle.std.proofs.lemmas.Str.{digit_value_digit}
use Rattle.std.proofs.lemmas.Str.Parse.{digits_value-take-le}
use Rattle.std.proofs.lemmas.Bool.{and_parts}
use Rattle.lemmas.specs.Digits.{digit_in_range, all_digits}

-- seven digits write no more than this
pub short_value : (ds : List ℕ) (i : ℕ) → list_all is_ascii_digit ds ≡ true → length ds ≤ 7
    → digits_value 10 (take i ds) < 10_000_000
short_value ds i all few =
    let least = digits_value-take-le 10 ds i (omega arith) in
    let below = digits_value-lt 10 ds (all_digits ds all) in
    let most : 10 ^ length ds ≤ 10_000_000 = pow-le-pow_right (omega arith) few in
    omega (arith, least, below, most)

-- the digit at a place
pub digit_at : (ds : List ℕ) (i : ℕ) → list_all is_ascii_digit ds ≡ true → i < length ds
    → IsInRange 48 57 (get_or ds i 0)
digit_at [] i all within = absurd (omega (arith, within))
digit_at (c ∷ ds) zero all within = digit_in_range c (and_parts (is_ascii_digit c) _ all).0
digit_at (c ∷ ds) (suc i) all within = digit_at ds i (and_parts (is_ascii_digit c) _ all).1 (omega (arith, within))

-- one digit more
pub a_digit_more : (ds : List ℕ) (i : ℕ) → list_all is_ascii_digit ds ≡ true → i < length ds
    → digits_value 10 (take (i + 1) ds) ≡ 10 * digits_value 10 (take i ds) + (get_or ds i 0 - 48)
a_digit_more ds i all within =
    let range = digit_at ds i all within in
    omega (arith, digits_value_more 10 ds i within, digit_value_digit (get_or ds i 0) range, range.0)
