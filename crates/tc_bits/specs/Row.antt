-- A register as a row: places that share out its bits, each with the number that is in it.
use Rattle.std.specs.Prelude.{◌≡◌, ℕ, ◌+◌, ◌*◌, ◌^◌, ◌<◌, Bool, true, ◌&&◌, ◌==◌, nat_le, nat_lt}
use Rattle.std.specs.Prelude.{List, [], ◌∷◌, map, count_by}
use Rattle.std.specs.List.{list_all, range_with_len}
use Rattle.tc_bits.specs.declared.place.Place.{Place}
use Rattle.tc_bits.specs.Register.{number_in}

-- the bit belongs to the place
abbrev pub is_in : ℕ → Place → Bool
is_in bit place = nat_le place.first bit && nat_lt bit (place.first + place.width)

-- each of the lowest bits, this many of them, belongs to exactly one of the places
abbrev pub are_shared_out : ℕ → List Place → Bool
are_shared_out count places = list_all (λ bit. count_by (is_in bit) places == 1) (range_with_len 0 count)

-- each place has a bit, and no bit behind these
abbrev pub are_within : ℕ → List Place → Bool
are_within count places = list_all (λ place. nat_le 1 place.width && nat_le (place.first + place.width) count) places

-- a place, and the number that belongs there
pub record Entry : Type 0 where
  pub place : Place
  pub number : ℕ

-- a place with a number
abbrev pub entry : Place → ℕ → Entry
entry place number = record { place = place; number = number }

-- the places of a row, in its order
abbrev pub places_of : List Entry → List Place
places_of row = map (λ e. e.place) row

-- each number fits its place
abbrev pub Fit : List Entry → Type 0
Fit [] = Unit {0}
Fit (e ∷ row) = (e.number < 2 ^ e.place.width) × Fit row

-- the register has each number in its place
abbrev pub Holds : List Entry → ℕ → Type 0
Holds [] bits = Unit {0}
Holds (e ∷ row) bits = (number_in e.place bits ≡ e.number) × Holds row bits

-- the numbers, each by the weight of its place
abbrev pub sum_of : List Entry → ℕ
sum_of [] = 0
sum_of (e ∷ row) = e.number * 2 ^ e.place.first + sum_of row

-- the places of the row share out this many bits, and its numbers fit them
pub record IsRow (count : ℕ) (row : List Entry) : Type 0 where
  pub shared : are_shared_out count (places_of row) ≡ true
  pub within : are_within count (places_of row) ≡ true
  pub fit : Fit row

-- the sum of a row has each number in its place
abbrev pub SumHolds : Type 0
SumHolds = (count : ℕ) (row : List Entry) → IsRow count row → Holds row (sum_of row) × (sum_of row < 2 ^ count)

-- and no other register of that many bits has
abbrev pub OnlySumHolds : Type 0
OnlySumHolds = (count : ℕ) (row : List Entry) (bits : ℕ) → IsRow count row → bits < 2 ^ count → Holds row bits
    → bits ≡ sum_of row
