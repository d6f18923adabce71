-- The tables of the coarse search.
use Rattle.std.specs.Prelude.{◌≡◌, ℕ, ◌*◌, ◌^◌, ◌<◌, List, length, get_or}
use Rattle.luma_row.specs.Coarse.{coarse_sum, fall_at, pixel_of, step_to, sum_at}
use Rattle.luma_row.specs.KeptTable.{IsFilled}
use Rattle.luma_row.specs.Width.{start, starts}

-- the falls at each pixel
abbrev pub AreFalls : List ℕ → List ℕ → Type 0
AreFalls row table = IsFilled (fall_at row) 4096 (2 ^ 26) (length row) table

-- the sum of the nine falls where the first sync pair stands at a pixel
abbrev pub sum_from : List ℕ → ℕ → ℕ → ℕ
sum_from row apart pixel = coarse_sum row apart (16 * pixel)

-- these sums at each of the first pixels
abbrev pub AreSumsAlong : List ℕ → ℕ → ℕ → List ℕ → Type 0
AreSumsAlong row apart count table = IsFilled (sum_from row apart) 4096 (9 * 2 ^ 26) count table

-- a table has the sum of each start of a distance at the pixel of the start
pub record AreSumsOfStarts (row : List ℕ) (apart : ℕ) (table : List ℕ) : Type 0 where
  pub within : (number : ℕ) → number < starts (length row) apart → pixel_of (start (length row) number) < 4096
  pub sums : (number : ℕ) → number < starts (length row) apart
      → get_or table (pixel_of (start (length row) number)) 0 ≡ sum_at row apart number

-- the pixels from the first sync pair to each of them
abbrev pub AreSteps : ℕ → List ℕ → Type 0
AreSteps apart table = IsFilled (step_to apart) 9 (2 ^ 18) 9 table
