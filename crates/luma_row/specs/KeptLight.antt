-- The table of the sums of a row, and the table so far.
use Rattle.std.specs.Prelude.{◌≡◌, ℕ, ◌*◌, ◌≤◌, List, length, get_or, take}
use Rattle.std.specs.List.{sum}

-- the sums of the first pixels, up to each of this many
pub record AreSumsTo (row table : List ℕ) (count : ℕ) : Type 0 where
  pub sums : (pixel : ℕ) → pixel ≤ count → get_or table pixel 0 ≡ sum (take pixel row)
  pub most : (pixel : ℕ) → pixel ≤ count → get_or table pixel 0 ≤ 255 * pixel

-- the sums of the pixels up to each
abbrev pub AreSums : List ℕ → List ℕ → Type 0
AreSums row table = AreSumsTo row table (length row)

-- the table so far, and its latest sum
pub record SumsSoFar (row table : List ℕ) (total count : ℕ) : Type 0 where
  pub long : length table ≡ 4097
  pub within : count ≤ length row
  pub latest : total ≡ get_or table count 0
  pub are : AreSumsTo row table count
