-- A count of a load run has eight decimal digits at most.
use Rattle.std.proofs.Common.{ℕ, ◌<◌, ◌≤◌, length, arith}
use Rattle.std.specs.Prelude.{decimal}
use Rattle.std.proofs.lemmas.Fmt.{length-decimal-le}

pub digits_of_counts : (n : ℕ) → n < 100000000 → length (decimal n) ≤ 8
digits_of_counts n p = length-decimal-le 8 n (omega arith) (omega arith) (omega arith)
