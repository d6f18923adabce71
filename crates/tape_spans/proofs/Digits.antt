-- How many decimal digits a number below a power of ten has at most.
use Rattle.std.proofs.Common.{ℕ, ◌<◌, ◌≤◌, ◌^◌, length, arith}
use Rattle.std.specs.Prelude.{decimal}
use Rattle.std.proofs.lemmas.Fmt.{length-decimal-le_wide}

pub digits_of_speed : (n : ℕ) → n < 10 ^ 25 → length (decimal n) ≤ 25
digits_of_speed n p = length-decimal-le_wide 25 n (omega arith) (omega arith) (omega arith)
