-- The best so far.
use Rattle.std.specs.Prelude.{◌≡◌, ℕ}
use Rattle.luma_row.specs.Choice.{IsFirstBest}

-- the first with the greatest worth of the numbers below `most`, and what it is worth
pub record IsBestOf (most : ℕ) (worth : ℕ → ℕ) (sum number : ℕ) : Type 0 where
  pub sum_is : sum ≡ worth number
  pub best : IsFirstBest most worth number
