-- The extremes of a row, as they are kept.
use Rattle.std.specs.Prelude.{◌≡◌, ℕ, ◌+◌, ◌/◌, List}
use Rattle.luma_row.specs.declared.extremes.Extremes.{Extremes}
use Rattle.luma_row.specs.Light.{darkest, lightest}

-- these are the darkest and the lightest pixel of the row
pub record AreExtremes (row : List ℕ) (extremes : Extremes) : Type 0 where
  pub darkest_is : extremes.darkest ≡ darkest row
  pub lightest_is : extremes.lightest ≡ lightest row

-- this is the least level that is no nearer to the darkest pixel of the row than to the lightest
abbrev pub IsMiddle : List ℕ → ℕ → Type 0
IsMiddle row middle = middle ≡ (darkest row + lightest row + 1) / 2
