use Rattle.std.proofs.Common.{◌≡◌, ℕ, zero, suc, ◌-◌, ◌/◌, ◌≤◌, List, [], ◌∷◌, ◌++◌, inl, inr, length, drop, arith}
use Rattle.std.proofs.Math.Nat.{le-div_iff_mul-le}
use Rattle.std.proofs.lemmas.List.{length-append}
use Rattle.cell_path.specs.declared.cell.Bit.TheVariants.{Zero}
use Rattle.cell_path.specs.declared.cell.Cell.{Cell}
use Rattle.cell_path.specs.declared.lengths.TheConstants.{LENGTHS}
use Rattle.cell_path.specs.Lengths.{length_in}
use Rattle.path_truth.specs.Tape.{HasAZero}
use Rattle.path_truth.proofs.Rising.{length_least, length_most}
use Rattle.path_truth.proofs.laws.a_zero_at_the_front_is_early.Goals as goal

at_front : (k : ℕ) (first : Cell) (more : List Cell) → k ≤ length more → first.bit ≡ Zero
    → HasAZero (drop k (more ++ first ∷ []))
at_front zero first [] less is = inl is
at_front zero first (cell ∷ more) less is = inr (at_front zero first more (omega arith) is)
at_front (suc k) first [] less is = absurd (omega arith)
at_front (suc k) first (cell ∷ more) less is = at_front k first more (omega arith) is

some_cells : (n : ℕ) → 4 ≤ n → n ≤ 96 → 1 ≤ 2_048 / n
some_cells n some most = (le-div_iff_mul-le {k = n} {x = 1} {y = 2_048} (omega (arith, some))).1 (omega (arith, most))

pub returns : goal.returns
returns c = λ place first more within is.
    let n = length_in LENGTHS place in
    let long = length-append more (first ∷ []) in
    let cells = some_cells n (length_least place within) (length_most place within) in
    at_front (length (more ++ first ∷ []) - 2_048 / n) first more (omega (arith, long, cells)) is
