-- A table that is filled from the front.
use Rattle.std.specs.Prelude.{◌≡◌, ℕ, ◌<◌, ◌≤◌, List, length, get_or}

-- the first `count` of a table of this size are those of f, and none of them is greater than most
pub record IsFilled (f : ℕ → ℕ) (size most count : ℕ) (table : List ℕ) : Type 0 where
  pub long : length table ≡ size
  pub filled : (place : ℕ) → place < count → get_or table place 0 ≡ f place
  pub within : (place : ℕ) → place < count → get_or table place 0 ≤ most
