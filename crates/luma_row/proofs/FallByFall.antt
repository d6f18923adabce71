-- A sum of so many falls is at most so many times the greatest.
use Rattle.std.proofs.Common.{◌≡◌, ℕ, suc, ◌+◌, refl, arith}
use Rattle.luma_row.specs.Choice.{sum_of}

-- with one more
pub sum_of_more : (n : ℕ) (f : ℕ → ℕ) → sum_of (n + 1) f ≡ sum_of n f + f n
unfolding sum_of
sum_of_more n f = let e : n + 1 ≡ suc n = omega arith in rw e refl

-- of none
pub sum_of_none : (f : ℕ → ℕ) → sum_of 0 f ≡ 0
unfolding sum_of
sum_of_none f = refl
