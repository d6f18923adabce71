-- A half whose samples have sizes between two, the greater of which is 12/5 of the smaller at most, fits a level between
-- those, whatever is usual.
use Rattle.std.proofs.Common.{◌≡◌, ℕ, ◌+◌, ◌-◌, ◌*◌, ◌/◌, ◌≤◌, false, pos, int_lt, unsigned_abs, cond, Bool, ap, ap₂}
use Rattle.std.proofs.Common.{sym, subst, ◌∙◌, arith}
use Rattle.std.proofs.Math.Nat.{div-le_of_le-mul}
use Rattle.std.proofs.lemmas.Int.{ints}
use Rattle.path_front.specs.declared.measured.Half.{Half}
use Rattle.path_front.specs.Fit.{far}
use Rattle.path_truth.proofs.FairCells.{IsFairHalf, IsLevel}

pub times : (a b c d : ℕ) → a ≤ b → c ≤ d → a * c ≤ b * d
times a b c d one two = grind arith

not-below : (n : ℕ) → int_lt (pos n) (pos 0) ≡ false
not-below n = grind (arith, ints)

-- the sizes of n samples and n times a level lie no further apart than n times the bounds
apart-by : (low high level n size : ℕ) → low * n ≤ size → size ≤ high * n → low ≤ level → level ≤ high
    → (size - n * level) + (n * level - size) ≤ (high - low) * n
apart-by low high level n size least most from to =
    let lesser = times low level n n from (omega arith) in
    let greater = times level high n n to (omega arith) in
    let d = high - low in
    let parts : high ≡ low + d = omega (arith, from, to) in
    let above : size ≤ (low + d) * n = subst (λ h. size ≤ h * n) parts most in
    let over : level * n ≤ (low + d) * n = subst (λ h. level * n ≤ h * n) parts greater in
    omega (arith, least, lesser, above, over)

-- 7/5 of a level have no more than two squares of it
pub square-fits : (far level : ℕ) → 5 * far ≤ 7 * level → far * far ≤ 2 * (level * level)
square-fits far level near =
    let square = times (5 * far) (7 * level) (5 * far) (7 * level) near near in omega (arith, square)

pub half-fits : (low high level n : ℕ) (half : Half) → 1 ≤ n → 5 * high ≤ 12 * low → IsFairHalf low high n half
    → IsLevel low high level → 5 * far level half n ≤ 7 * level
half-fits low high level n half some near is between =
    let above : int_lt half.sum (pos 0) ≡ false = ap (λ z. int_lt z (pos 0)) is.sum_is ∙ not-below is.size in
    let apart = apart-by low high level n is.size is.least is.most between.least between.most in
    let same : far level half n ≡ ((is.size - n * level) + (n * level - is.size)) / n =
    ap₂ (λ (b : Bool) m. cond b (m + n * level) ((m - n * level) + (n * level - m)) / n) above
    (ap unsigned_abs is.sum_is) in
    let less : far level half n ≤ high - low =
    subst (λ m. m ≤ high - low) (sym same) (div-le_of_le-mul n (omega (arith, apart))) in
    omega (arith, less, near, between.least)
