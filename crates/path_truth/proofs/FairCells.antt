-- The levels of cells whose samples have sizes between two lie between those.
use Rattle.std.proofs.Common.{◌≡◌, ℕ, zero, suc, ◌+◌, ◌*◌, ◌/◌, ◌<◌, ◌≤◌, List, [], ◌∷◌, length, take, refl, ap₂}
use Rattle.std.proofs.Common.{ℤ, pos, ◌+ℤ◌, int_le, Bool, true, false, cond, sym, subst, ◌∙◌, arith}
use Rattle.std.proofs.lemmas.Int.{ints}
use Rattle.std.specs.List.{sum_by, AllByRecursion}
use Rattle.std.proofs.Math.Nat.{div-le_of_le-mul, le-div_iff_mul-le, mul-suc}
use Rattle.std.proofs.lemmas.List.Sums.{sum_by-cons}
use Rattle.path_front.specs.declared.measured.Half.{Half}
use Rattle.path_front.specs.declared.measured.Measured.{Measured}
use Rattle.path_front.specs.Levels.{above, level_of, mean_level}

-- a half of a cell of n steps, taken twice, whose sizes lie between two
pub record IsFairHalf (low high n : ℕ) (half : Half) : Type 0 where
  pub size : ℕ
  pub sum_is : half.sum ≡ pos size
  pub least : low * n ≤ size
  pub most : size ≤ high * n
  pub squares : half.squares + n * (low * high) ≤ (low + high) * size

pub record IsFair (low high n : ℕ) (cell : Measured) : Type 0 where
  pub length_is : cell.length ≡ n
  pub some : 1 ≤ n
  pub first : IsFairHalf low high n cell.first
  pub second : IsFairHalf low high n cell.second

abbrev pub AreFair : ℕ → ℕ → ℕ → List Measured → Type 0
AreFair low high n cells = AllByRecursion (IsFair low high n) cells

above-by : (none : Bool) (n : ℕ) → int_le (pos n) (pos 0) ≡ none → cond none 0 n ≡ n
above-by true n is = grind (arith, ints)
above-by false n is = refl

pub above-zero : (n : ℕ) → above (pos n) ≡ n
above-zero n = above-by (int_le (pos n) (pos 0)) n refl

pub above-both : (a b : ℤ) (m n : ℕ) → a ≡ pos m → b ≡ pos n → above (a +ℤ b) ≡ m + n
above-both a b m n first second = ap₂ (λ x y. above (x +ℤ y)) first second ∙ above-zero (m + n)

pub record IsLevel (low high level : ℕ) : Type 0 where
  pub least : low ≤ level
  pub most : level ≤ high

level-between : (low high n sum : ℕ) → 1 ≤ n → low * n + low * n ≤ sum → sum ≤ high * n + high * n
    → IsLevel low high (sum / (2 * n))
level-between low high n sum some least most =
    let both : 1 ≤ 2 * n = omega (arith, some) in
    record {
      least = (le-div_iff_mul-le both).1 (omega (arith, least));
      most = div-le_of_le-mul (2 * n) (omega (arith, most));
    }

pub cell-level : (low high n : ℕ) (cell : Measured) → IsFair low high n cell → IsLevel low high (level_of cell)
cell-level low high n cell is =
    let sum = above-both cell.first.sum cell.second.sum is.first.size is.second.size is.first.sum_is is.second.sum_is in
    let all = level-between low high n (is.first.size + is.second.size) is.some
    (omega (arith, is.first.least, is.second.least)) (omega (arith, is.first.most, is.second.most)) in
    let same : (is.first.size + is.second.size) / (2 * n) ≡ level_of cell =
    sym (ap₂ (λ s k. s / (2 * k)) sum is.length_is) in
    subst (IsLevel low high) same all

sum-between : (low high n : ℕ) (cells : List Measured) → AreFair low high n cells
    → (low * length cells ≤ sum_by level_of cells) × (sum_by level_of cells ≤ high * length cells)
sum-between low high n [] are = (omega arith, omega arith)
sum-between low high n (cell ∷ cells) are =
    let more = sum-between low high n cells are.1 in
    let one = cell-level low high n cell are.0 in
    let all = sum_by-cons level_of cell cells in
    let a = mul-suc low (length cells) in
    let b = mul-suc high (length cells) in
    (omega (arith, more.0, one.least, all, a), omega (arith, more.1, one.most, all, b))

pub mean-level : (low high n : ℕ) (cell : Measured) (cells : List Measured) → AreFair low high n (cell ∷ cells)
    → IsLevel low high (mean_level (cell ∷ cells))
mean-level low high n cell cells are =
    let all = sum-between low high n (cell ∷ cells) are in
    let some : 0 < length (cell ∷ cells) = omega arith in
    record {
      least = (le-div_iff_mul-le some).1 (omega (arith, all.0));
      most = div-le_of_le-mul (length (cell ∷ cells)) (omega (arith, all.1));
    }

pub take-fair : (low high n k : ℕ) (cells : List Measured) → AreFair low high n cells
    → AreFair low high n (take k cells)
take-fair low high n zero cells are = tt
take-fair low high n (suc k) [] are = tt
take-fair low high n (suc k) (cell ∷ cells) are = (are.0, take-fair low high n k cells are.1)
