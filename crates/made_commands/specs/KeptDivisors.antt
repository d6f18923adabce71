-- What stands for the divisors of the load run. No promise speaks of it.
use Rattle.std.specs.Prelude.{◌≡◌, ℕ, ◌+◌, ◌*◌, ◌/◌, ◌^◌, ◌≤◌, ◌<◌, List, slice_index}

-- what a number is multiplied with in place of a division
abbrev pub factor_of : ℕ → ℕ
factor_of divisor = 2 ^ 64 / divisor + 1

-- the factors of the odd divisors below the one of this half
abbrev pub AreBelow : ℕ → List ℕ → Type 0
AreBelow bound factors = (half : ℕ) → 1 ≤ half → half < bound → slice_index factors half ≡ factor_of (2 * half + 1)

-- those of all of them
abbrev pub AreFactors : List ℕ → Type 0
AreFactors factors = AreBelow 513 factors
