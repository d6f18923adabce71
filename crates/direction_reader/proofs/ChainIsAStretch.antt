-- A chain that begins with a zero and a one is one stretch: their intervals are an unequal pair, so the lock is at the
-- first of them, and no chain there is longer.
use Rattle.std.proofs.Common.{◌≡◌, ℕ, suc, ◌+◌, ◌≤◌, Bool, true, false, List, [], ◌∷◌, ◌++◌, length, drop, None, inl}
use Rattle.std.proofs.Common.{inr, refl, sym}
use Rattle.std.proofs.Common.{ap, ◌∙◌, append-nil, arith}
use Rattle.std.proofs.lemmas.List.{drop_all, length-append}
use Rattle.biphase.specs.declared.cell.Cell.{Cell}
use Rattle.biphase.specs.declared.cell.Cell.TheVariants.{Zero, One}
use Rattle.biphase.specs.declared.profile.Profile.{Profile}
use Rattle.biphase.specs.Tolerance.{kept_at_lock}
use Rattle.biphase.specs.Chain.{bits, flat, intervals_of, kept_of, Begins, FollowOn, IsChain, IsChainAfter, Kinds}
use Rattle.biphase.specs.ToleranceLemmas.{behind_zero}
use Rattle.biphase.specs.ChainLemmas.{comparable, fewer_cells}
use Rattle.cell_tracker.specs.Lock.{IsLock}
use Rattle.cell_tracker.specs.Stretch.{Stretch, AreStretches, IsBreak, IsChainFrom, IsStretch, end_of}

-- what the laws of biphase say
abbrev pub AreAsSaid : Type 0
AreAsSaid = (profile : Profile) (cells : List Cell) → IsChain profile cells → Kinds profile cells

-- all of the cells, without a break
abbrev pub whole : List Cell → Stretch
whole cells = record { lock = 0; cells = cells; broken_at = None }

front_fits : (front list rest : List ℕ) → list ≡ front ++ rest → length front ≤ length list
front_fits front list rest e = let parts = length-append front rest in let all = ap length e in
    omega (arith, parts, all)

fewer_before : (front list : List Cell) → Begins front list → length front ≤ length list
fewer_before front list (rest, e) = let parts = length-append front rest in let all = ap length e in
    omega (arith, parts, all)

-- a chain that is no longer than the intervals of another is no longer than that
no_longer : (one two : List Cell) → length (flat one) ≤ length (flat two) → Begins one two → length one ≤ length two
no_longer one two fits begins = fewer_before one two begins

flat-append : (one two : List Cell) → length (flat (one ++ two)) ≡ length (flat one) + length (flat two)
flat-append [] two = omega arith
flat-append (cell ∷ one) two =
    let rest = flat-append one two in
    let a = length-append (intervals_of cell) (flat (one ++ two)) in
    let b = length-append (intervals_of cell) (flat one) in
    omega (arith, a, b, rest)

not_more : (one two : List Cell) → length (flat one) ≤ length (flat two) → Begins two one → length one ≤ length two
not_more one two fits (extra, e) =
    let parts = flat-append two extra in
    let all = ap (λ (l : List Cell). length (flat l)) e in
    let few = fewer_cells extra in
    let cells = length-append two extra in
    let count = ap length e in
    omega (arith, parts, all, few, cells, count)

-- the longest chain there
longest : (profile : Profile) (x : ℕ) (two others more : List Cell) → IsChainAfter profile x two
    → others ≡ Zero x ∷ more → FollowOn profile others → Begins (flat others) (x ∷ flat two)
    → length others ≤ suc (length two)
longest profile x two others more twos first chain (rest, e) =
    let chain_too : FollowOn profile (Zero x ∷ more) = rw first at chain in
    let e_too : x ∷ flat two ≡ (x ∷ flat more) ++ rest = e ∙ ap (λ (l : List Cell). flat l ++ rest) first in
    let tail : flat two ≡ flat more ++ rest = cc in
    let fits = front_fits (flat more) (flat two) rest tail in
    let count : length others ≡ suc (length more) = ap length first in
    let fewer : length more ≤ length two = elim (comparable profile (kept_at_lock profile x) more two
    (flat two) chain_too.1 twos (rest, tail) ([], sym (append-nil (flat two)))) [
      | inl before ↦ no_longer more two fits before
      | inr after ↦ not_more more two fits after
    ] in
    omega arith

-- cells that follow one another from a lock at the first of them are one stretch
stretch_from : (profile : Profile) (x : ℕ) (more : List Cell) → FollowOn profile (Zero x ∷ more)
    → IsLock profile (flat (Zero x ∷ more)) 0 0
    → AreStretches profile (flat (Zero x ∷ more)) (whole (Zero x ∷ more) ∷ [])
stretch_from profile x more follow lock =
    let cells : List Cell = Zero x ∷ more in
    let list = flat cells in
    let from : IsChainFrom profile list 0 cells = record {
      first = (more, refl);
      chain = follow;
      front =
          ([], sym (append-nil list));
    } in
    let none : drop (end_of (whole cells)) list ≡ [] = drop_all (end_of (whole cells)) list (omega arith) in
    let broken : IsBreak profile (kept_of profile cells) (end_of (whole cells))
    (drop (end_of (whole cells)) list) None = rw none refl in
    let is : IsStretch profile list (whole cells) = record {
      chain = from;
      longest = λ others c. longest profile x more others c.first.0 follow.1 c.first.1 c.chain c.front;
      broken = broken;
    } in
    (lock, is, refl)

pub whole_from : (profile : Profile) (cells : List Cell) (list : List Bool) → FollowOn profile cells
    → IsLock profile (flat cells) 0 0 → bits cells ≡ false ∷ list
    → AreStretches profile (flat cells) (whole cells ∷ [])
whole_from profile [] list follow lock are = absurd cc
whole_from profile (Zero x ∷ more) list follow lock are = stretch_from profile x more follow lock
whole_from profile (One a b ∷ more) list follow lock are = absurd cc

one_stretch : AreAsSaid → (profile : Profile) (x a b : ℕ) (more : List Cell) → IsChain profile (Zero x ∷ One a b ∷ more)
    → AreStretches profile (flat (Zero x ∷ One a b ∷ more)) (whole (Zero x ∷ One a b ∷ more) ∷ [])
one_stretch said profile x a b more chain =
    let pair = (said profile (Zero x ∷ One a b ∷ more) chain).1 in
    let lock : IsLock profile (flat (Zero x ∷ One a b ∷ more)) 0 0 = record {
      pair = 0;
      within = omega arith;
      unequal = (omega arith, pair.0);
      none_before = λ k le lt. absurd (omega arith);
      rising = λ lt. absurd (omega (arith, pair.1));
      falling = λ lt. refl;
    } in
    stretch_from profile x (One a b ∷ more) (behind_zero profile [] (One a b ∷ more) x chain) lock

-- and so are cells with these bits
pub whole_is : AreAsSaid → (profile : Profile) (cells : List Cell) (list : List Bool) → IsChain profile cells
    → bits cells ≡ false ∷ true ∷ list
    → AreStretches profile (flat cells) (whole cells ∷ [])
whole_is said profile [] list chain are = absurd cc
whole_is said profile (Zero x ∷ []) list chain are = absurd cc
whole_is said profile (Zero x ∷ Zero y ∷ more) list chain are = absurd cc
whole_is said profile (Zero x ∷ One a b ∷ more) list chain are = one_stretch said profile x a b more chain
whole_is said profile (One a b ∷ more) list chain are = absurd cc
