-- The whole parts of a front come first, whatever follows it.
use Rattle.std.proofs.Common.{◌≡◌, ℕ, zero, suc, ◌+◌, ◌-◌, ◌*◌, ◌/◌, ◌<◌, ◌≤◌, List, ◌∷◌, ◌++◌, length, take, drop}
use Rattle.std.proofs.Common.{refl, ap, ap₂, sym, ◌∙◌, arith}
use Rattle.std.proofs.Common.{length-append, length-drop}
use Rattle.std.proofs.Math.Nat.{suc-mul}
use Rattle.std.proofs.lemmas.Nat.{div-add-mod', le-div}
use Rattle.std.proofs.lemmas.List.{drop-append-le, take-append-le}
use Rattle.luma_field.specs.Parts.{parts, whole_parts}

parts_of_front : (count size : ℕ) (front more : List ℕ) → count * size ≤ length front
    → parts count size (front ++ more) ≡ parts count size front
unfolding parts
parts_of_front zero size front more fit = refl
parts_of_front (suc count) size front more fit =
    let times = suc-mul count size in
    let left = length-drop size front in
    ap₂ (λ (x : List ℕ) (xs : List (List ℕ)). x ∷ xs) (take-append-le size front more (omega (arith, fit, times)))
    (ap (parts count size) (drop-append-le size front more (omega (arith, fit, times)))
    ∙ parts_of_front count size (drop size front) more (omega (arith, fit, times, left)))

more_parts : (count others size : ℕ) (bytes : List ℕ)
    → (rest : List (List ℕ)) × (parts (count + others) size bytes ≡ parts count size bytes ++ rest)
unfolding parts
more_parts zero others size bytes = (parts others size bytes, ap (λ (n : ℕ). parts n size bytes) (omega arith))
more_parts (suc count) others size bytes =
    let e : suc count + others ≡ suc (count + others) = omega arith in
    let more = more_parts count others size (drop size bytes) in (
      more.0,
      ap (λ (n : ℕ). parts n size bytes) e ∙ ap (λ (xs : List (List ℕ)). take size bytes ∷ xs) more.1,
    )

front_first : (size : ℕ) (front more : List ℕ) → 0 < size
    → (rest : List (List ℕ)) × (whole_parts size (front ++ more) ≡ whole_parts size front ++ rest)
front_first size front more some =
    let count = length front / size in
    let all = length (front ++ more) / size in
    let whole = length-append front more in
    let cut = div-add-mod' (length front) size in
    let fit : count * size ≤ length front = omega (arith, cut) in
    let less : count ≤ all = le-div count (length (front ++ more)) size some (omega (arith, fit, whole)) in
    let both : all ≡ count + (all - count) = omega (arith, less) in
    let more_of = more_parts count (all - count) size (front ++ more) in (
      more_of.0,
      ap (λ (n : ℕ). parts n size (front ++ more)) both ∙ (more_of.1
          ∙ ap (λ (xs : List (List ℕ)). xs ++ more_of.0) (parts_of_front count size front more fit)),
    )

-- of no size there are none
pub whole_first : (size : ℕ) (front more : List ℕ)
    → (rest : List (List ℕ)) × (whole_parts size (front ++ more) ≡ whole_parts size front ++ rest)
unfolding parts
whole_first zero front more =
    let none : length front / 0 ≡ 0 = omega arith in
    (whole_parts 0 (front ++ more), ap (λ (n : ℕ). parts n 0 front ++ whole_parts 0 (front ++ more)) (sym none))
whole_first (suc size) front more = front_first (suc size) front more (omega arith)
