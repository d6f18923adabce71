-- The lengths of the latest cells of a stretch, in ticks.
use Rattle.std.specs.Prelude.{ℕ}

-- the lengths of the latest four cells, the last one first. Where a tolerance compares with the last cell alone, the
-- others are 0
pub record Latest : Type 0 where
  pub last : ℕ
  pub second : ℕ
  pub third : ℕ
  pub fourth : ℕ
