-- Bounds of numbers with a sign.
use Rattle.std.specs.Prelude.{ℕ, ℤ, pos, neg_ℤ, ◌≤ℤ◌}

-- the number is between this one and its opposite
pub record IsWithin (most : ℕ) (number : ℤ) : Type 0 where
  pub above : number ≤ℤ pos most
  pub below : neg_ℤ (pos most) ≤ℤ number
