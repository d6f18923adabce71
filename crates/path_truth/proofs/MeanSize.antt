-- The mean of some sizes is no smaller than the smallest of them.
use Rattle.std.proofs.Common.{ℕ, zero, suc, ◌*◌, ◌<◌, ◌≤◌, List, [], ◌∷◌, length, take}
use Rattle.std.proofs.Common.{arith}
use Rattle.std.specs.List.{sum, AllByRecursion}
use Rattle.std.proofs.Math.Nat.{le-div_iff_mul-le, mul-suc}
use Rattle.std.proofs.lemmas.List.Sums.{sum_by-cons}
use Rattle.path_front.specs.Sizes.{latest_sizes, mean_size}

abbrev pub AreAbove : ℕ → List ℕ → Type 0
AreAbove low sizes = AllByRecursion (λ size. low ≤ size) sizes

sum-least : (low n : ℕ) (sizes : List ℕ) → AreAbove low sizes → low * length (take n sizes) ≤ sum (take n sizes)
sum-least low zero sizes above = omega arith
sum-least low (suc n) [] above = omega arith
sum-least low (suc n) (size ∷ sizes) above =
    let more = sum-least low n sizes above.1 in
    omega (
      arith,
      more,
      mul-suc low (length (take n sizes)),
      sum_by-cons (λ x. x) size (take n sizes),
      above.0,
    )

pub mean-least : (low : ℕ) (size : ℕ) (sizes : List ℕ) → AreAbove low (size ∷ sizes)
    → low ≤ mean_size 1 (size ∷ sizes)
mean-least low size sizes above =
    let some : 0 < length (latest_sizes (size ∷ sizes)) = omega arith in
    let all = sum-least low 512 (size ∷ sizes) above in
    (le-div_iff_mul-le some).1 (omega (arith, all))
