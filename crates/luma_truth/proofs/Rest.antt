-- What a number lacks of a greater one, as a number of its own.
use Rattle.std.proofs.Common.{◌≡◌, ℕ, ◌+◌, ◌-◌, ◌≤◌, arith}

pub rest_of : (a b : ℕ) → a ≤ b → (k : ℕ) × (a + k ≡ b)
rest_of a b h = (b - a, omega arith)
