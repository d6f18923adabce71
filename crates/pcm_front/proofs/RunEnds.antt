-- A run of samples goes on through a part of a list if the whole part belongs to it, and else ends in the part.
use Rattle.std.proofs.Common.{◌≡◌, ℕ, ◌+◌, ◌-◌, ◌<◌, ◌≤◌, ◌≢◌, ℤ, [], ◌∷◌, map, FitsSigned, to_z, of_z, to_z-of_z, ap₂}
use Rattle.std.proofs.Common.{Bool, true, false, not, cond, eqb, List, drop, length, length-drop, refl, ap, sym, ◌∙◌}
use Rattle.std.proofs.Common.{arith}
use Rattle.std.specs.Prelude.{slice_range}
use Rattle.pcm_front.specs.Quiet.{first_set}
use Rattle.std.specs.List.{prefix_len, AllByRecursion}
use Rattle.std.specs.Int.{w16}
use Rattle.std.proofs.lemmas.Bool.{cond-true, cond-false, eq-eqb, ne_eqb}
use Rattle.std.specs.Simd.Lanes.{mask_l}
use Rattle.std.proofs.Math.Path.{fun_ext}
use Rattle.std.proofs.lemmas.Simd.{first_set_mask_l}
use Rattle.std.proofs.lemmas.List.{length-take-le}
use Rattle.std.proofs.lemmas.List.Folds.{drop_split, prefix_len-append}
use Rattle.std.proofs.lemmas.List.Sums.{prefix_len-le-length}

not_not : (b : Bool) → not (not b) ≡ b
not_not true = refl
not_not false = refl

module _ {X : Type 0} (p : X → Bool) (xs : List X) (at n : ℕ) (within : at + n ≤ length xs) where
  abbrev part : List X
  part = slice_range xs at (at + n)

  pub long : length part ≡ n
  long = length-take-le ((at + n) - at) (drop at xs) (omega (arith, length-drop at xs)) ∙ (omega arith)

  cut : prefix_len p (drop at xs) ≡ cond (eqb (prefix_len p part) n) (n + prefix_len p (drop (at + n) xs))
      (prefix_len p part)
  cut = ap (prefix_len p) (drop_split xs at (at + n) (omega arith)) ∙ prefix_len-append p part (drop (at + n) xs)
      ∙ ap (λ l. cond (eqb (prefix_len p part) l) (l + prefix_len p (drop (at + n) xs)) (prefix_len p part)) long

  pub no_longer : (r : ℕ) → r ≡ prefix_len p part → r ≤ n
  no_longer r is = omega (arith, is, prefix_len-le-length p part, long)

  pub goes_on : (r : ℕ) → r ≡ prefix_len p part → n ≤ r → at + prefix_len p (drop at xs) ≡ (at + r) + prefix_len p
      (drop (at + r) xs)
  goes_on r is all =
      let same : r ≡ n = omega (arith, is, prefix_len-le-length p part, long) in
      let e : prefix_len p (drop at xs) ≡ n + prefix_len p (drop (at + n) xs) = cut
      ∙ cond-true _ _ _ (eq-eqb _ _ (sym is ∙ same)) in
      rw same (omega (arith, e))

  pub ends : (r : ℕ) → r ≡ prefix_len p part → r < n → prefix_len p (drop at xs) ≡ r
  ends r is short =
      let other : prefix_len p part ≢ n = omega (arith, is, short) in
      cut ∙ cond-false _ _ _ (ne_eqb _ _ other) ∙ sym is

  -- the first sample that does not pass, by a bit for each
  pub first_outside : n ≤ 64 → (lanes : List X) → lanes ≡ part → first_set (mask_l (map (λ x. not (p x)) lanes)) n
      ≡ prefix_len p part
  first_outside few lanes are =
      let same : (λ (x : X). not (not (p x))) ≡ p = fun_ext (λ x. not_not (p x)) in
      ap (λ l. first_set (mask_l (map (λ x. not (p x)) l)) n) are
      ∙ first_set_mask_l (λ x. not (p x)) part n long few
      ∙ ap (λ q. prefix_len q part) same

-- numbers of 16 bits are read from their bits
pub as_they_are : (xs : List ℤ) → AllByRecursion (FitsSigned w16) xs → map (to_z w16) (map (of_z w16) xs) ≡ xs
as_they_are [] fits = refl
as_they_are (x ∷ xs) fits = ap₂ (λ y ys. y ∷ ys) (to_z-of_z fits.0) (as_they_are xs fits.1)
