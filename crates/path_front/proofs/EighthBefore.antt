-- Of eight cells before there is an eighth, so it does not matter what would stand for it.
use Rattle.std.proofs.Common.{◌≡◌, ℕ, Bool, true, ◌==◌, ◌&&◌, List, length, get_or, ap, ap₂, sym, ◌∙◌, arith}
use Rattle.std.proofs.lemmas.List.{get_or_default}
use Rattle.path_front.specs.declared.measured.Measured.{Measured}
use Rattle.path_front.specs.Bend.{bends, bends_from}

eight : (n : ℕ) → n ≡ 8 → (n == 8) ≡ true
eight n is = ap (λ k. k == 8) is

-- from the pace of the eighth cell before
pub bends_is : (grain : ℕ) (before : List Measured) (cell other : Measured) (behind : List Measured) (answer : Bool)
    → length before ≡ 8 → length behind ≡ 8
    → answer ≡ bends_from grain (get_or before 7 other).length before cell behind → answer ≡ bends grain before cell behind
bends_is grain before cell other behind answer many many_behind is =
    is ∙ ap (λ (c : Measured). bends_from grain c.length before cell behind)
    (get_or_default before 7 other cell (omega (arith, many)))
    ∙ sym (ap₂ (λ a b. a && b && bends_from grain (get_or before 7 cell).length before cell behind)
    (eight (length before) many) (eight (length behind) many_behind))
