-- Steps that are on the sides of others, so many for each of those, keep the sides of cells that
-- are so many times as long.
use Rattle.std.proofs.Common.{◌≡◌, ℕ, zero, suc, ◌+◌, ◌*◌, ◌/◌, ◌%◌, List, [], ◌∷◌, length, drop, ap, subst}
use Rattle.std.proofs.Common.{◌∙◌, arith}
use Rattle.std.proofs.Math.Nat.{add-mul, suc-mul}
use Rattle.std.proofs.lemmas.List.{drop-drop, length-drop}
use Rattle.cell_path.specs.declared.cell.Bit.{Bit}
use Rattle.cell_path.specs.declared.cell.Bit.TheVariants.{Zero, One}
use Rattle.cell_path.specs.declared.cell.Cell.{Cell}
use Rattle.cell_path.specs.declared.cell.Sign.{Sign}
use Rattle.cell_path.specs.declared.cell.Step.{Step}
use Rattle.cell_path.specs.Path.{opposite}
use Rattle.path_truth.specs.Sides.{AreOnSide, IsOnSide, KeepsItsSides, KeepsSides}

-- k steps for each of these, on its side
abbrev pub AreLike : ℕ → List Step → List Step → Type 0
AreLike k [] steps = length steps ≡ 0
AreLike k (one ∷ ones) steps =
    ((sign : Sign) → IsOnSide sign one → AreOnSide sign k steps) × AreLike k ones (drop k steps)

on-append : (sign : Sign) (a b : ℕ) (steps : List Step) → AreOnSide sign a steps → AreOnSide sign b (drop a steps)
    → AreOnSide sign (a + b) steps
on-append sign zero b steps on more =
    let same : b ≡ zero + b = omega arith in subst (λ n. AreOnSide sign n steps) same more
on-append sign (suc a) b [] on more = absurd on
on-append sign (suc a) b (step ∷ steps) on more =
    let same : suc (a + b) ≡ suc a + b = omega arith in
    subst (λ n. AreOnSide sign n (step ∷ steps)) same (on.0, on-append sign a b steps on.1 more)

one_more : (m k : ℕ) → k + m * k ≡ suc m * k
one_more m k = omega (arith, suc-mul m k)

like-on : (k m : ℕ) (sign : Sign) (ones steps : List Step) → AreOnSide sign m ones → AreLike k ones steps
    → AreOnSide sign (m * k) steps
like-on k zero sign ones steps on like =
    let none : zero ≡ zero * k = omega arith in subst (λ n. AreOnSide sign n steps) none tt
like-on k (suc m) sign [] steps on like = absurd on
like-on k (suc m) sign (one ∷ ones) steps on like =
    subst (λ n. AreOnSide sign n steps) (one_more m k)
    (on-append sign k (m * k) steps (like.0 sign on.0) (like-on k m sign ones (drop k steps) on.1 like.1))

like-drop : (k m : ℕ) (ones steps : List Step) → AreLike k ones steps → AreLike k (drop m ones) (drop (m * k) steps)
like-drop k zero ones steps like =
    let none : zero ≡ zero * k = omega arith in subst (λ n. AreLike k ones (drop n steps)) none like
like-drop k (suc m) [] steps like = omega (arith, length-drop (suc m * k) steps, like)
like-drop k (suc m) (one ∷ ones) steps like =
    subst (AreLike k (drop m ones)) (drop-drop (m * k) k steps ∙ ap (λ n. drop n steps) (one_more m k))
    (like-drop k m ones (drop k steps) like.1)

like-sides : (k m : ℕ) (bit : Bit) (sign : Sign) (ones steps : List Step) → KeepsSides bit sign m ones
    → AreLike k ones steps → KeepsSides bit sign (m * k) steps
like-sides k m Zero sign ones steps keeps like = like-on k m sign ones steps keeps like
like-sides k m One sign ones steps keeps like =
    let h = m / 2 in
    let even : m % 2 ≡ 0 = keeps.0 in
    let twice : m ≡ h + h = omega arith in
    let whole : m * k ≡ h * k + h * k = ap (λ n. n * k) twice ∙ add-mul h h k in
    let half : h * k ≡ m * k / 2 = omega (arith, whole) in (
      omega (arith, whole),
      subst (λ n. AreOnSide sign n steps) half (like-on k h sign ones steps keeps.1 like),
      subst (λ n. AreOnSide (opposite sign) n (drop n steps)) half
          (like-on k h (opposite sign) (drop h ones) (drop (h * k) steps) keeps.2 (like-drop k h ones steps like)),
    )

nothing-like : (k : ℕ) (ones steps : List Step) → length ones ≡ 0 → AreLike k ones steps → length steps ≡ 0
nothing-like k [] steps none like = like
nothing-like k (one ∷ ones) steps none like = absurd (omega arith)

pub like-tape : (k m : ℕ) (tape : List Cell) (ones steps : List Step) → KeepsItsSides m ones tape
    → AreLike k ones steps → KeepsItsSides (m * k) steps tape
like-tape k m [] ones steps keeps like = nothing-like k ones steps keeps like
like-tape k m (cell ∷ before) ones steps keeps like = (
  like-sides k m cell.bit cell.sign ones steps keeps.0 like,
  like-tape k m before (drop m ones) (drop (m * k) steps) keeps.1 (like-drop k m ones steps like),
)
