-- Where 1s and 0s are far apart, each sync pair stands out, and the mean swing is 6 levels or more.
use Rattle.std.proofs.Common.{◌≡◌, ℕ, zero, suc, ◌+◌, ◌-◌, ◌*◌, ◌/◌, ◌<◌, ◌≤◌, ◌⊎◌, inl, inr}
use Rattle.std.proofs.Common.{Bool, true, ◌&&◌, cond, List, refl, ap, ap₂, arith}
use Rattle.std.specs.Prelude.{leb}
use Rattle.std.proofs.Math.Nat.{mul-le-mul_left}
use Rattle.std.proofs.lemmas.Bool.Decides.{nat_tests}
use Rattle.luma_row.specs.declared.place.Place.{Place}
use Rattle.luma_row.specs.Cells.{counts, dark_of, light_of, standing_out, stands_out, swing}
use Rattle.luma_row.specs.Choice.{sum_of}
use Rattle.luma_row.specs.Place.{apart}
use Rattle.luma_truth.proofs.Rest.{rest_of}
use Rattle.luma_truth.proofs.AllSay.{swing_most, AreApart, AreBetween, HasPairs}

sum_of_ones : (n : ℕ) (f : ℕ → ℕ) → ((k : ℕ) → k < n → f k ≡ 1) → sum_of n f ≡ n
unfolding sum_of
sum_of_ones zero f each = refl
sum_of_ones (suc n) f each =
    let before = sum_of_ones n f (λ k h. each k (omega arith)) in
    let here = each n (omega arith) in
    omega (arith, before, here)

abbrev one_if : Bool → ℕ
one_if is = cond is 1 0

stands : (total light dark : ℕ) → total ≤ 72 * (light - dark) → one_if (leb total (72 * (light - dark))) ≡ 1
stands total light dark h = grind (arith, nat_tests)

each_stands : (word one_least one_most zero_least zero_most : ℕ) (cells : List ℕ) (pair : ℕ)
    → AreBetween word one_least one_most zero_least zero_most cells → HasPairs word
    → AreApart one_least one_most zero_least zero_most → pair < 9 → stands_out cells pair ≡ 1
each_stands word one_least one_most zero_least zero_most cells pair are has apart h =
    let few = swing_most word one_least one_most zero_least zero_most cells are has apart in
    let one = are.ones_least (10 * pair) (omega arith) (has.ones pair h) in
    let nought = are.zeros_most (10 * pair + 1) (omega arith) (has.zeros pair h) in
    let far = apart.far in
    let shares = apart.shares in
    let order = apart.order in
    stands (swing cells) (light_of cells pair) (dark_of cells pair)
    (omega (arith, few, one, nought, far, shares, order))

both_true : (a b : Bool) → a ≡ true → b ≡ true → (a && b) ≡ true
both_true a b p q = ap₂ ◌&&◌ p q

at_most : (a b : ℕ) → a ≤ b → leb a b ≡ true
at_most a b h = grind (arith, nat_tests)

-- six levels over the middle six eighths of a cell
pub six_levels : (swing noise less over core apart total : ℕ) → 12 ≤ swing
    → 102 * (noise * (2 * core + 3)) + 2299 * swing ≤ 70 * (swing * core) → 2 * less ≤ noise → 2 * over ≤ noise
    → 32 ≤ core → 6 * apart / 640 ≡ core
    → 9 * (2 * (less + swing) * core - (2 * over * (core + 1) + noise * (core + 1) + 16 * swing))
    ≤ 2 * total + 9 * (2 * less * (core + 1) + noise * (core + 1) + 16 * swing - 2 * over * core)
    → 81 * apart ≤ 160 * total
six_levels swing noise less over core apart total some enough few_less quiet long is least =
    let q = mul-le-mul_left core quiet in
    let r = mul-le-mul_left over long in
    let cases : (core ≤ 33) ⊎ (34 ≤ core) = grind arith in
    elim cases [
      | inl few ↦
          let m = mul-le-mul_left swing few in
          let n = mul-le-mul_left core some in
          omega (arith, some, enough, few, few_less, quiet, is, least, m, n, q, r)
      | inr many ↦
          let extra = rest_of 34 core many in
          let m = mul-le-mul_left extra.0 some in
          let product = ap (λ (w : ℕ). swing * w) extra.1 in
          omega (arith, some, enough, few_less, quiet, is, least, m, product, extra.1, q, r)
    ]

pub pairs_count : (word one_least one_most zero_least zero_most : ℕ) (cells : List ℕ) (place : Place)
    → AreBetween word one_least one_most zero_least zero_most cells → HasPairs word
    → AreApart one_least one_most zero_least zero_most → 81 * apart place ≤ 160 * swing cells
    → counts place cells ≡ true
unfolding standing_out
pairs_count word one_least one_most zero_least zero_most cells place are has far enough =
    let all = sum_of_ones 9 (stands_out cells)
    (λ pair h. each_stands word one_least one_most zero_least zero_most cells pair are has far h) in
    both_true (leb (81 * apart place) (160 * swing cells)) (leb 7 (sum_of 9 (stands_out cells)))
    (at_most (81 * apart place) (160 * swing cells) enough)
    (at_most 7 (sum_of 9 (stands_out cells)) (omega (arith, all)))
