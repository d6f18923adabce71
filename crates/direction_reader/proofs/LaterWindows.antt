-- The windows of a stretch from one on, which end behind what came before.
use Rattle.std.proofs.Common.{◌≡◌, ◌<◌, ◌≤◌, ℕ, ◌+◌, ◌-◌, zero, suc, List, [], ◌∷◌, ◌++◌, length, take, drop, map}
use Rattle.std.proofs.Common.{sum}
use Rattle.std.proofs.Common.{get_or}
use Rattle.std.proofs.Common.{ap, arith, append_assoc, inl, inr, subst, sym, ◌∙◌, All}
use Rattle.std.specs.List.{range_with_len}
use Rattle.std.proofs.lemmas.Bool.{cases_lt}
use Rattle.std.proofs.lemmas.Grind.{flat_map-append}
use Rattle.std.proofs.lemmas.List.{take-append-drop, length-take}
use Rattle.std.proofs.lemmas.List.{length-drop, get_or-drop}
use Rattle.std.proofs.lemmas.List.Sums.{sum_by-cons}
use Rattle.std.proofs.lemmas.List.FromFn.{get_or-map-range_with_len, length-map-range_with_len}
use Rattle.biphase.specs.ChainLemmas.{fewer_cells}
use Rattle.biphase.specs.declared.cell.Cell.{Cell}
use Rattle.biphase.specs.declared.cell.Cell.TheVariants.{Zero, One}
use Rattle.biphase.specs.declared.profile.Profile.{Profile}
use Rattle.biphase.specs.Latest.{Latest}
use Rattle.biphase.specs.Tolerance.{kept_at_lock, kept_next}
use Rattle.biphase.specs.Tolerance.{length_of}
use Rattle.biphase.specs.Chain.{intervals_of, flat, Follow, FollowOn}
use Rattle.cell_tracker.specs.Stretch.{Stretch, IsChainFrom}
use Rattle.direction_reader.specs.Gathered.{begin_of}
use Rattle.direction_reader.specs.Windows.{window_at, windows}
use Rattle.direction_reader.proofs.FindsTheTape.{sum_at, sum_later}
use Rattle.direction_reader.proofs.WindowsFrom.{EndsFrom}

-- ---- the windows of a stretch from one on

-- the front of a chain is one
chain_front : (profile : Profile) (c : Latest) (one two : List Cell) → Follow profile c (one ++ two)
    → Follow profile c one
chain_front profile c [] two chain = tt
chain_front profile c (cell ∷ one) two chain = (
  chain.0,
  chain.1,
  chain_front profile
      (kept_next profile c (length_of cell)) one two chain.2,
)

-- also from a lock
front_from : (profile : Profile) (l : List ℕ) (lock : ℕ) (one two : List Cell) → 0 < length one
    → IsChainFrom profile l lock (one ++ two)
    → IsChainFrom profile l lock one
front_from profile l lock [] two some is = absurd (omega arith)
front_from profile l lock (cell ∷ one) two some is =
    let first = is.first in
    let zero : cell ≡ Zero (get_or l lock 0) = let all = first.1 in cc in
    record {
      first = (one, ap (λ (c : Cell). c ∷ one) zero);
      chain = (is.chain.0, chain_front profile (kept_at_lock profile (length_of cell)) one two is.chain.1);
      front = (
        flat two ++ is.front.0,
        is.front.1 ∙ ap (λ (xs : List ℕ). xs ++ is.front.0) (flat_map-append intervals_of (cell ∷ one) two)
            ∙ append_assoc (flat (cell ∷ one)) (flat two) is.front.0,
      );
    }

-- a chain from a lock has a cell
some_cells : (profile : Profile) (l : List ℕ) (lock : ℕ) (cells : List Cell) → IsChainFrom profile l lock cells
    → 0 < length cells
some_cells profile l lock [] is = let all = is.first.1 in absurd cc
some_cells profile l lock (cell ∷ cells) is = omega arith

-- the first cells of a chain from a lock
pub taken : (profile : Profile) (l : List ℕ) (lock m : ℕ) (cells : List Cell) → 0 < m → IsChainFrom profile l lock cells
    → IsChainFrom profile l lock (take m cells)
taken profile l lock m cells more is =
    let some = some_cells profile l lock cells is in
    front_from profile l lock (take m cells) (drop m cells) (omega (arith, length-take m cells))
    (subst (λ (cs : List Cell). IsChainFrom profile l lock cs) (sym (take-append-drop m cells)) is)

-- intervals of a tick or more
abbrev pub Positive : List ℕ → Type 0
Positive [] = Unit {0}
Positive (x ∷ xs) = (1 ≤ x) × Positive xs

positive_follow : (profile : Profile) (c : Latest) (cells : List Cell) → Follow profile c cells → Positive (flat cells)
positive_follow profile c [] is = tt
positive_follow profile c (Zero x ∷ cells) is = (
  is.0,
  positive_follow profile
      (kept_next profile c (length_of (Zero x))) cells is.2,
)
positive_follow profile c (One a b ∷ cells) is =
    (is.0.0, (is.0.1, positive_follow profile (kept_next profile c (length_of (One a b))) cells is.2))

pub positive_chain : (profile : Profile) (cells : List Cell) → FollowOn profile cells → Positive (flat cells)
positive_chain profile [] is = tt
positive_chain profile (Zero x ∷ cells) is = (
  is.0,
  positive_follow profile
      (kept_at_lock profile (length_of (Zero x))) cells is.1,
)
positive_chain profile (One a b ∷ cells) is =
    (is.0.0, (is.0.1, positive_follow profile (kept_at_lock profile (length_of (One a b))) cells is.1))

-- fewer of them last less
sum_less : (xs : List ℕ) (m : ℕ) → m < length xs → Positive xs → sum (take m xs) < sum xs
sum_less [] m less is = absurd (omega arith)
sum_less (x ∷ xs) zero less is = let most = is.0 in omega (arith, most, sum_by-cons (λ n. n) x xs)
sum_less (x ∷ xs) (suc m) less is =
    omega (arith, sum_less xs m (omega arith) is.1, sum_by-cons (λ n. n) x xs, sum_by-cons (λ n. n) x (take m xs))

-- what ends behind a place has a later tick
sum_above : (l xs behind : List ℕ) (lock n : ℕ) → drop lock l ≡ xs ++ behind → Positive xs → 0 < length xs
    → n < lock + length xs
    → sum (take n l) < sum (take lock l) + sum xs
sum_above l xs behind lock n same is some less = elim (cases_lt n lock) [
  | inl before ↦ omega (arith, sum_later l n lock (omega arith), sum_less xs 0 some is)
  | inr from ↦ (
      let m = n - lock in
      let part = take m xs in
      let long : length part ≡ m = omega (arith, length-take m xs) in
      let joined : drop lock l ≡ part ++ (drop m xs ++ behind) =
      same ∙ ap (λ (ys : List ℕ). ys ++ behind) (sym (take-append-drop m xs)) ∙ append_assoc part (drop m xs) behind in
      let there = sum_at l part (drop m xs ++ behind) lock joined in
      let place : lock + length part ≡ n = omega (arith, long) in
      omega (arith, rw place at there, sum_less xs m (omega arith) is))
]

some_flat : (cells : List Cell) → 0 < length cells → 0 < length (flat cells)
some_flat cells some = omega (arith, fewer_cells cells)

-- the windows of a stretch from the k-th on, if each of them ends behind the place n
pub late_windows : (profile : Profile) (l : List ℕ) (t : Stretch) (n k : ℕ) → IsChainFrom profile l t.lock t.cells
    → ((j : ℕ) → k ≤ j → j + 80 ≤ length t.cells → n < t.lock + length (flat (take (j + 80) t.cells)))
    → All (EndsFrom (sum (take n l))) (drop k (windows (begin_of l t) t.cells))
late_windows profile l t n k is late i d within =
    let at = window_at (begin_of l t) t.cells in
    let count = length t.cells - 79 in
    let all = map at (range_with_len 0 count) in
    let long : length all ≡ count = length-map-range_with_len at 0 count in
    let inside : k + i < count = omega (arith, length-drop k all) in
    let window : get_or (drop k all) i d ≡ at (k + i) = get_or-drop k all i d
    ∙ get_or-map-range_with_len at 0 count (k + i) (k + i) d inside (omega arith) in
    let front = (taken profile l t.lock (k + i + 80) t.cells (omega arith) is).front in
    let place = late (k + i) (omega arith) (omega arith) in
    let some = some_flat (take (k + i + 80) t.cells) (omega
    (arith, length-take (k + i + 80) t.cells, length-drop k all)) in
    let later = sum_above l (flat (take (k + i + 80) t.cells)) front.0 t.lock n front.1
    (positive_chain profile (take (k + i + 80) t.cells)
    (taken profile l t.lock (k + i + 80) t.cells (omega arith) is).chain) some place in
    rw window (omega (arith, later))
