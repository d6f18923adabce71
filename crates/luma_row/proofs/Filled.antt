-- A table that is filled from the front is filled a place further with the next value.
use Rattle.std.proofs.Common.{◌≡◌, ℕ, ◌+◌, ◌<◌, ◌≤◌, ◌⊎◌, inl, inr, List, length, get_or, map, sym, subst, ◌∙◌, arith}
use Rattle.std.specs.List.{range_with_len}
use Rattle.std.specs.Prelude.{set}
use Rattle.std.proofs.lemmas.List.{get_or-set_same, get_or-set_other, length-set}
use Rattle.std.proofs.lemmas.List.FromFn.{fill_by_all}
use Rattle.luma_row.specs.KeptTable.{IsFilled}

pub nothing_filled : (f : ℕ → ℕ) (size most : ℕ) (table : List ℕ) → length table ≡ size → IsFilled f size most 0 table
nothing_filled f size most table long = record {
  long = long;
  filled = λ place h. absurd (omega arith);
  within = λ place h. absurd (omega arith);
}

pub one_filled : (f : ℕ → ℕ) (size most count x : ℕ) (table : List ℕ) → IsFilled f size most count table → count < size
    → x ≡ f count → x ≤ most → IsFilled f size most (count + 1) (set table count x)
one_filled f size most count x table t room is small =
    let long = t.long in
    let here = get_or-set_same table count x 0 (omega arith) in
    let before : (place : ℕ) → place < count → get_or (set table count x) place 0 ≡ get_or table place 0 =
    λ place h. get_or-set_other table count place x 0 (λ e. omega arith) in
    let cases : (place : ℕ) → place < count + 1 → (place < count) ⊎ (place ≡ count) = λ place h. grind arith in
    record {
      long = length-set table count x ∙ t.long;
      filled = λ place h. elim (cases place h) [
        | inl less ↦ before place less ∙ t.filled place less
        | inr same ↦ subst (λ p. get_or (set table count x) p 0 ≡ f p) (sym same) (here ∙ is)
      ];
      within = λ place h. elim (cases place h) [
        | inl less ↦ let e = before place less in let w = t.within place less in omega (arith, e, w)
        | inr same ↦ subst (λ p. get_or (set table count x) p 0 ≤ most) (sym same) (omega (arith, here, small))
      ];
    }

-- up to more of them, where there are no more
pub filled_to : (f : ℕ → ℕ) (size most count other : ℕ) (table : List ℕ) → count ≡ other
    → IsFilled f size most count table
    → IsFilled f size most other table
filled_to f size most count other table same t = subst (λ n. IsFilled f size most n table) same t

pub all_filled : (f : ℕ → ℕ) (size most : ℕ) (table : List ℕ) → IsFilled f size most size table
    → table ≡ map f (range_with_len 0 size)
all_filled f size most table t = fill_by_all f table size 0 t.long t.filled
