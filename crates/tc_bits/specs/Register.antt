-- The fields of a register: some neighbouring bits, read as a number.
use Rattle.std.specs.Prelude.{ℕ, ◌+◌, ◌/◌, ◌%◌, ◌^◌, ◌≤◌, Bool, ◌==◌}
use Rattle.tc_bits.specs.declared.place.Place.{Place}

-- the number whose bit k is bit `first + k` of the register
abbrev pub field : ℕ → ℕ → ℕ → ℕ
field bits first width = bits / 2 ^ first % 2 ^ width

-- the place has some bits, no more than a `u32` and all within a `u128`
pub record IsPlace (place : Place) : Type 0 where
  pub some : 1 ≤ place.width
  pub narrow : place.width ≤ 32
  pub within : place.first + place.width ≤ 128

-- the number that stands in a place of the register
abbrev pub number_in : Place → ℕ → ℕ
number_in place bits = field bits place.first place.width

-- whether the bit of a place is set
abbrev pub is_set : Place → ℕ → Bool
is_set place bits = number_in place bits == 1
