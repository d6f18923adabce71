-- A register shifted by one place holds the bits with one more at the end.
use Rattle.direction_reader.specs.Windows.{number_of}
use Rattle.std.proofs.Common.{◌≡◌, ◌<◌, ℕ, ◌+◌, ◌*◌, ◌/◌, ◌^◌, List, [], ◌∷◌, ◌++◌, length, mul_assoc, add-mul, Bool}
use Rattle.std.proofs.Common.{true, false, arith, refl, ap, sym, ◌∙◌}
use Rattle.std.proofs.lemmas.Nat.{pow-add}
use Rattle.direction_reader.specs.Window.{bit_value, slid_by}

-- a bit is 0 or 1
pub bit_value-least : (bit : Bool) → bit_value bit < 2
bit_value-least true = omega arith
bit_value-least false = omega arith

-- one bit more at the end
pub number_of-append : (bs : List Bool) (bit : Bool) → number_of (bs ++ bit ∷ [])
    ≡ number_of bs + bit_value bit * 2 ^ length bs
number_of-append [] bit = omega arith
number_of-append (b ∷ bs) bit = let more = number_of-append bs bit in grind (arith, more)

-- a full window
pub slid-full : (b : Bool) (bs : List Bool) (bit : Bool) → length bs ≡ 79
    → slid_by (number_of (b ∷ bs)) bit ≡ number_of (bs ++ bit ∷ [])
slid-full b bs bit count =
    let two = bit_value-least b in
    let half : (bit_value b + 2 * number_of bs) / 2 ≡ number_of bs = omega arith in
    let more = number_of-append bs bit in
    rw (half, more, count) refl

-- a window that is filling, with `room` places free before the bit
pub slid-filling : (bs : List Bool) (bit : Bool) (room : ℕ) → length bs + room ≡ 79 →
    slid_by (number_of bs * 2 ^ (room + 1)) bit ≡ number_of (bs ++ bit ∷ []) * 2 ^ room
slid-filling bs bit room all =
    let power : 2 ^ (room + 1) ≡ 2 ^ room * 2 = pow-add 2 room 1 in
    let twice : number_of bs * (2 ^ room * 2) ≡ number_of bs * 2 ^ room * 2 =
    sym (mul_assoc (number_of bs) (2 ^ room) 2) in
    let half : number_of bs * 2 ^ (room + 1) / 2 ≡ number_of bs * 2 ^ room = rw (power, twice) (omega arith) in
    let top : 2 ^ length bs * 2 ^ room ≡ 2 ^ 79 = sym (pow-add 2 (length bs) room) ∙ ap (λ n. 2 ^ n) all in
    let more = number_of-append bs bit in
    let parts : (number_of bs + bit_value bit * 2 ^ length bs) * 2 ^ room
    ≡ number_of bs * 2 ^ room + bit_value bit * (2 ^ length bs * 2 ^ room) =
    add-mul (number_of bs) (bit_value bit * 2 ^ length bs) (2 ^ room)
    ∙ ap (λ n. number_of bs * 2 ^ room + n) (mul_assoc (bit_value bit) (2 ^ length bs) (2 ^ room)) in
    rw (half, more, parts, top) refl
