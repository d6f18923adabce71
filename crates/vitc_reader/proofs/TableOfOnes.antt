-- The table of ones has them: each of its numbers is tried.
use Rattle.std.proofs.Common.{◌≡◌, ℕ, ◌-◌, ◌^◌, ◌≤◌, Bool, true, get_or, refl, ◌∙◌, arith}
use Rattle.std.specs.Prelude.{◌==◌}
use Rattle.std.specs.List.{list_all, range_with_len}
use Rattle.std.proofs.lemmas.Bool.{eqb-true, true_from_ne_false}
use Rattle.std.proofs.lemmas.List.Folds.{list_all_at}
use Rattle.std.proofs.lemmas.List.FromFn.{get_or-range_with_len}
use Rattle.vitc_reader.specs.declared.ones.TheConstants.{ONES}

has_ones : ℕ → Bool
has_ones k = get_or ONES k 0 == 2 ^ k - 1

all_have : list_all has_ones (range_with_len 0 91) ≡ true
unfolding has_ones
all_have = refl

pub ones_at : (k : ℕ) → k ≤ 90 → get_or ONES k 0 ≡ 2 ^ k - 1
unfolding has_ones
ones_at k few =
    let at : get_or (range_with_len 0 91) k 0 ≡ k = get_or-range_with_len 0 91 k 0 (omega (arith, few)) ∙ omega arith in
    eqb-true (get_or ONES k 0) (2 ^ k - 1) (true_from_ne_false (has_ones k) (λ fails.
    let none = list_all_at has_ones (range_with_len 0 91) k 0 (omega (arith, few)) (rw at fails) in
    let all = all_have in absurd cc))
