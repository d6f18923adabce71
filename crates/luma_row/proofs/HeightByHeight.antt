-- Heights that are filled from the front are filled a bit further with the next.
use Rattle.std.proofs.Common.{◌≡◌, ℕ, ◌+◌, ◌<◌, ◌≤◌, ℤ, pos, ◌⊎◌, inl, inr, List, length, get_or, map, sym, subst, ◌∙◌}
use Rattle.std.proofs.Common.{arith}
use Rattle.std.specs.List.{range_with_len}
use Rattle.std.specs.Prelude.{set, unsigned_abs}
use Rattle.std.proofs.lemmas.List.{get_or-set_same, get_or-set_other, length-set}
use Rattle.std.proofs.lemmas.List.FromFn.{fill_by_all}
use Rattle.luma_row.specs.KeptHeights.{AreHeightsTo}

pub no_heights : (f : ℕ → ℤ) (most : ℕ) (heights : List ℤ) → length heights ≡ 90 → AreHeightsTo f most 0 heights
no_heights f most heights long = record {
  long = long;
  filled = λ bit h. absurd (omega arith);
  within = λ bit h. absurd (omega arith);
}

pub one_height : (f : ℕ → ℤ) (most count : ℕ) (x : ℤ) (heights : List ℤ) → AreHeightsTo f most count heights
    → count < 90
    → x ≡ f count → unsigned_abs x ≤ most → AreHeightsTo f most (count + 1) (set heights count x)
one_height f most count x heights t room is small =
    let long = t.long in
    let here = get_or-set_same heights count x (pos 0) (omega arith) in
    let before : (bit : ℕ) → bit < count → get_or (set heights count x) bit (pos 0) ≡ get_or heights bit (pos 0) =
    λ bit h. get_or-set_other heights count bit x (pos 0) (λ e. omega arith) in
    let cases : (bit : ℕ) → bit < count + 1 → (bit < count) ⊎ (bit ≡ count) = λ bit h. grind arith in
    record {
      long = length-set heights count x ∙ t.long;
      filled = λ bit h. elim (cases bit h) [
        | inl less ↦ before bit less ∙ t.filled bit less
        | inr same ↦ subst (λ p. get_or (set heights count x) p (pos 0) ≡ f p) (sym same) (here ∙ is)
      ];
      within = λ bit h. elim (cases bit h) [
        | inl less ↦ subst (λ y. unsigned_abs y ≤ most) (sym (before bit less)) (t.within bit less)
        | inr same ↦ subst (λ p. unsigned_abs (get_or (set heights count x) p (pos 0)) ≤ most) (sym same)
            (subst (λ y. unsigned_abs y ≤ most) (sym here) small)
      ];
    }

pub heights_to : (f : ℕ → ℤ) (most count other : ℕ) (heights : List ℤ) → count ≡ other
    → AreHeightsTo f most count heights
    → AreHeightsTo f most other heights
heights_to f most count other heights same t = subst (λ n. AreHeightsTo f most n heights) same t

pub all_heights : (f : ℕ → ℤ) (most : ℕ) (heights : List ℤ) → AreHeightsTo f most 90 heights
    → heights ≡ map f (range_with_len 0 90)
all_heights f most heights t = fill_by_all f heights 90 (pos 0) t.long t.filled
