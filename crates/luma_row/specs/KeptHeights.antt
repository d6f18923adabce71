-- The middles and heights of cells as tables.
use Rattle.std.specs.Prelude.{◌≡◌, ℕ, ◌^◌, ◌<◌, ◌≤◌, ℤ, pos, unsigned_abs, List, length, get_or}
use Rattle.luma_row.specs.Heights.{smoothed}
use Rattle.luma_row.specs.KeptTable.{IsFilled}

-- the table has the nine smoothed middles
abbrev pub AreSmoothed : List ℕ → List ℕ → Type 0
AreSmoothed cells table = IsFilled (smoothed cells) 9 (2 ^ 27) 9 table

-- no height is greater
abbrev pub AreHeights : ℕ → List ℤ → Type 0
AreHeights most heights = (bit : ℕ) → bit < 90 → unsigned_abs (get_or heights bit (pos 0)) ≤ most

-- the first `count` of 90 heights are those of f
pub record AreHeightsTo (f : ℕ → ℤ) (most count : ℕ) (heights : List ℤ) : Type 0 where
  pub long : length heights ≡ 90
  pub filled : (bit : ℕ) → bit < count → get_or heights bit (pos 0) ≡ f bit
  pub within : (bit : ℕ) → bit < count → unsigned_abs (get_or heights bit (pos 0)) ≤ most
