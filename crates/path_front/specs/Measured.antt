-- What is measured of a decided cell. Lists begin with the latest.
use Rattle.std.specs.Prelude.{ℕ, ◌+◌, ◌-◌, ◌*◌, ◌/◌, ◌^◌, ◌≤◌, ℤ, unsigned_abs}
use Rattle.std.specs.Prelude.{List, ◌++◌, length}
use Rattle.cell_path.specs.declared.cell.Bit.{Bit}
use Rattle.cell_path.specs.declared.cell.Bit.TheVariants.{Zero, One}
use Rattle.cell_path.specs.declared.cell.Sign.{Sign}
use Rattle.cell_path.specs.declared.lengths.TheConstants.{LENGTHS}
use Rattle.cell_path.specs.declared.placed.Decided.{Decided}
use Rattle.cell_path.specs.Lengths.{length_in}
use Rattle.cell_path.specs.Path.{opposite, signed}
use Rattle.path_front.specs.declared.measured.Half.{Half}
use Rattle.path_front.specs.declared.measured.Measured.{Measured}
use Rattle.path_front.specs.Latest.{part, squares_of, sum_of}

-- a zero has one sign, and a one two
abbrev pub first_sign : Bit → Sign → Sign
first_sign Zero sign = sign
first_sign One sign = opposite sign

-- the steps of a half, twice: without the middle one of an odd cell, and with it. The shorter part and the longer one
-- end so long ago.
abbrev pub twice : ℕ → ℕ → ℕ → List ℤ → List ℤ
twice shorter_ago longer_ago length sounds =
    part shorter_ago (length / 2) sounds ++ part longer_ago (length - length / 2) sounds

-- a half of a cell: its sum with the sign of the path, and the sum of its squares
abbrev pub half_of : Sign → ℕ → ℕ → ℕ → List ℤ → Half
half_of sign shorter_ago longer_ago length sounds =
    let steps = twice shorter_ago longer_ago length sounds in
    record { sum = signed sign (sum_of steps); squares = squares_of steps }

-- a cell with its distance from the one before it, how long ago it ended, and its length, all in steps
abbrev pub measured_at : Decided → ℕ → ℕ → ℕ → List ℤ → Measured
measured_at decided span ago length sounds = record {
  span = span;
  length = length;
  bit = decided.placed.cell.bit;
  jumps = decided.jumps;
  first = half_of (first_sign decided.placed.cell.bit decided.placed.cell.sign) (ago + (length - length / 2))
      (ago + length / 2) length sounds;
  second = half_of decided.placed.cell.sign ago ago length sounds;
}

-- a cell that is decided behind one that ended there, in the sound of the steps so far
abbrev pub measured_of : Decided → ℕ → List ℤ → Measured
measured_of decided ended sounds =
    measured_at decided (decided.placed.end - ended) (length sounds - decided.placed.end)
    (length_in LENGTHS decided.placed.cell.place) sounds

-- of a cell of this many steps, each of 16 bits
pub record IsHalf (length : ℕ) (half : Half) : Type 0 where
  pub sum : unsigned_abs half.sum ≤ length * 2 ^ 15
  pub squares : half.squares ≤ length * 2 ^ 30

-- how long a measured cell is, and how great the numbers of its halves are
pub record IsMeasured (cell : Measured) : Type 0 where
  pub least_span : 2 ≤ cell.span
  pub most_span : cell.span ≤ 120
  pub least : 4 ≤ cell.length
  pub most : cell.length ≤ 96
  pub first : IsHalf cell.length cell.first
  pub second : IsHalf cell.length cell.second
