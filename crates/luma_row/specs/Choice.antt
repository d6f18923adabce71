-- The first of the greatest.
use Rattle.std.specs.Prelude.{ℕ, zero, suc, ◌+◌, ◌<◌, ◌≤◌, max, Bool, true, false, ◌&&◌, ◌||◌}

-- f 0 + f 1 + .. + f (n - 1)
unfoldable pub sum_of : ℕ → (ℕ → ℕ) → ℕ
sum_of zero f = 0
sum_of (suc n) f = sum_of n f + f n

-- p holds of each number below this one
unfoldable pub all_of : ℕ → (ℕ → Bool) → Bool
all_of zero p = true
all_of (suc n) p = all_of n p && p n

-- p holds of a number below this one
unfoldable pub any_of : ℕ → (ℕ → Bool) → Bool
any_of zero p = false
any_of (suc n) p = any_of n p || p n

-- the greatest of f 0, f 1, .., f (n - 1)
unfoldable pub greatest : ℕ → (ℕ → ℕ) → ℕ
greatest zero f = 0
greatest (suc n) f = max (greatest n f) (f n)

-- of the numbers below `most` it is the first with the greatest worth
pub record IsFirstBest (most : ℕ) (worth : ℕ → ℕ) (number : ℕ) : Type 0 where
  pub below : number < most
  pub greatest : (other : ℕ) → other < most → worth other ≤ worth number
  pub first : (other : ℕ) → other < number → worth other < worth number
