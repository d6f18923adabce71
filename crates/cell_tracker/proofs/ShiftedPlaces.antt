-- The front of what was kept, and places counted from where it begins.
use Rattle.std.proofs.Common.{◌≡◌, ℕ, ◌+◌, ◌-◌, ◌≤◌, List, [], ◌∷◌, ◌++◌, length, drop, get_or}
use Rattle.std.proofs.Common.{ap, sym, ◌∙◌, arith, length-append}
use Rattle.std.proofs.lemmas.List.{drop-drop, drop-append-le, get_or-append-add}
use Rattle.biphase.specs.declared.profile.Profile.{Profile}
use Rattle.biphase.specs.Chain.{flat}
use Rattle.cell_tracker.specs.Lock.{IsUnequalAt}
use Rattle.cell_tracker.specs.Stretch.{Stretch, end_of, IsStretch}

-- a front of a list with two in it has the first two of the list, and one with one the first
pub two_of_front : (xs rest : List ℕ) (a b : ℕ) (more : List ℕ) → xs ++ rest ≡ a ∷ b ∷ more → 2 ≤ length xs
    → (others : List ℕ) × (xs ≡ a ∷ b ∷ others)
two_of_front [] rest a b more same two = absurd (omega arith)
two_of_front (x ∷ []) rest a b more same two = absurd (omega arith)
two_of_front (x ∷ y ∷ xs) rest a b more same two =
    let first : x ≡ a = cc in
    let second : y ≡ b = cc in
    (xs, ap (λ v. v ∷ y ∷ xs) first ∙ ap (λ v. a ∷ v ∷ xs) second)

pub one_of_front : (xs rest : List ℕ) (a : ℕ) (more : List ℕ) → xs ++ rest ≡ a ∷ more → length xs ≡ 1 → xs ≡ a ∷ []
one_of_front [] rest a more same one = absurd (omega arith)
one_of_front (x ∷ []) rest a more same one = let first : x ≡ a = cc in ap (λ v. v ∷ []) first
one_of_front (x ∷ y ∷ xs) rest a more same one = absurd (omega arith)

-- what is in the list at a place is in the stretch there
pub in_stretch : (profile : Profile) (l : List ℕ) (s : Stretch) (k j : ℕ) (is : IsStretch profile l s) → s.lock + k ≡ j
    → j ≤ end_of s → drop k (flat s.cells) ++ is.chain.front.0 ≡ drop j l
in_stretch profile l s k j is at within =
    sym (drop-append-le k (flat s.cells) is.chain.front.0 (omega arith)) ∙ ap (drop k) (sym is.chain.front.1)
    ∙ drop-drop k s.lock l ∙ ap (λ n. drop n l) at

-- the recording's pairs in the list
pub shift_on : (profile : Profile) (before kept : List ℕ) (k : ℕ) → IsUnequalAt profile kept k
    → IsUnequalAt profile (before ++ kept) (length before + k)
shift_on profile before kept k at =
    let here : get_or (before ++ kept) (length before + k) 0 ≡ get_or kept k 0 = get_or-append-add before kept k 0 in
    let place : length before + k + 1 ≡ length before + (k + 1) = omega arith in
    let next : get_or (before ++ kept) (length before + k + 1) 0 ≡ get_or kept (k + 1) 0 =
    ap (λ n. get_or (before ++ kept) n 0) place ∙ get_or-append-add before kept (k + 1) 0 in
    (omega (arith, at.0, length-append before kept), rw (here, next) at.1)

pub shift_back : (profile : Profile) (before kept : List ℕ) (k : ℕ)
    → IsUnequalAt profile (before ++ kept) (length before + k)
    → IsUnequalAt profile kept k
shift_back profile before kept k at =
    let here : get_or (before ++ kept) (length before + k) 0 ≡ get_or kept k 0 = get_or-append-add before kept k 0 in
    let place : length before + k + 1 ≡ length before + (k + 1) = omega arith in
    let next : get_or (before ++ kept) (length before + k + 1) 0 ≡ get_or kept (k + 1) 0 =
    ap (λ n. get_or (before ++ kept) n 0) place ∙ get_or-append-add before kept (k + 1) 0 in
    (omega (arith, at.0, length-append before kept), rw (← here, ← next) at.1)
