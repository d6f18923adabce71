-- A sound decides one list of cells: each decision is taken on its one best path, behind what was decided before.
use Rattle.std.proofs.Common.{◌≡◌, ℕ, ◌%◌, ◌<◌, ◌==◌, ℤ, inl, inr, List, [], ◌∷◌, ◌++◌, Bool, true, false, ◌&&◌}
use Rattle.std.proofs.Common.{Option, Some, None, length, drop, reverse, refl, ap, ap₂, subst, sym, ◌∙◌, arith}
use Rattle.std.proofs.lemmas.Bool.{lt-leb}
use Rattle.std.proofs.lemmas.Int.{ints}
use Rattle.std.proofs.lemmas.List.{reverse-append}
use Rattle.cell_path.specs.declared.cell.Cell.{Cell}
use Rattle.cell_path.specs.declared.cell.Step.{Step}
use Rattle.cell_path.specs.declared.follow.TheConstants.{DELAY}
use Rattle.cell_path.specs.declared.lengths.TheConstants.{LENGTHS}
use Rattle.cell_path.specs.declared.placed.Placed.{Placed}
use Rattle.cell_path.specs.Best.{IsBestOfAll}
use Rattle.cell_path.specs.Decided.{end_behind, in_time, is_due, joined, jumps, latest_of, newly, Adds, AreDecided}
use Rattle.cell_path.specs.Decided.{AreDecidedInAll}
use Rattle.cell_path.specs.Path.{score}
use Rattle.cell_path.specs.Unfinished.{lack, IsBestUnfinished, LacksLess}
use Rattle.cell_path.proofs.OneBest.{same_winner}

pub one_of_all : (steps : List Step) (path other : List Cell) → IsBestOfAll LENGTHS steps path
    → IsBestOfAll LENGTHS steps other → path ≡ other
one_of_all steps path other best like =
    same_winner (score LENGTHS steps path) (score LENGTHS steps other) path other
    (best.wins other like.is_path) (like.wins path best.is_path)

-- of two that lack no more than each other none ends earlier
same_end : (x y : ℤ) (a b : ℕ) → LacksLess x a y b → LacksLess y b x a → a ≡ b
same_end x y a b (inl one) (inl two) = absurd (omega (arith, ints))
same_end x y a b (inl one) (inr two) = absurd (omega (arith, ints, two.0))
same_end x y a b (inr one) (inl two) = absurd (omega (arith, ints, one.0))
same_end x y a b (inr one) (inr two) = omega (arith, one.1, two.1)

one_unfinished : (steps : List Step) (ago other : ℕ) (path others : List Cell)
    → IsBestUnfinished LENGTHS steps ago path → IsBestUnfinished LENGTHS steps other others
    → (ago ≡ other) × (path ≡ others)
one_unfinished steps ago other path others best like =
    let over = best.wins other others (record {
      latest = like.latest;
      within = like.within;
      is_path = like.is_best.is_path;
    }) in
    let under = like.wins ago path (record {
      latest = best.latest;
      within = best.within;
      is_path = best.is_best.is_path;
    }) in
    let same = same_end (lack LENGTHS (drop ago steps) path) (lack LENGTHS (drop other steps) others) ago other over
    under in (
      same,
      one_of_all (drop other steps) path others
          (subst (λ n. IsBestOfAll LENGTHS (drop n steps) path) same best.is_best) like.is_best,
    )

-- what one step adds is one list
adds_one : (steps : List Step) (before earlier all others : List Placed) (due : Bool) → is_due (length steps) ≡ due
    → before ≡ earlier → Adds steps before all → Adds steps earlier others → all ≡ others
adds_one steps before earlier all others true due same adds like =
    let a = adds.due due in
    let b = like.due due in
    let one = one_unfinished steps a.0 b.0 a.1 b.1 a.2 b.2 in
    a.3 ∙ ap₂ (λ n p. newly DELAY (length steps) n (end_behind 0 before) p ++ before) one.0 one.1
    ∙ ap (λ l. newly DELAY (length steps) b.0 (end_behind 0 l) b.1 ++ l) same ∙ sym b.3
adds_one steps before earlier all others false due same adds like = adds.idle due ∙ same ∙ sym (like.idle due)

pub one_decision : (steps : List Step) (all others : List Placed) → AreDecided steps all → AreDecided steps others
    → all ≡ others
one_decision [] all others are like = are ∙ sym like
one_decision (step ∷ steps) all others are like =
    adds_one (step ∷ steps) are.0 like.0 all others (is_due (length (step ∷ steps))) refl
    (one_decision steps are.0 like.0 are.1 like.1) are.2 like.2

-- when the sound ends, too
pub one_in_all : (steps : List Step) (all others : List Placed) → AreDecidedInAll steps all
    → AreDecidedInAll steps others → all ≡ others
one_in_all [] all others are like = are ∙ sym like
one_in_all (step ∷ steps) all others are like =
    let now = step ∷ steps in
    are.4 ∙ ap (λ p. newly 0 (length now) 0 (end_behind 0 are.0) p ++ are.0) (one_of_all now are.2 like.2 are.3 like.3)
    ∙ ap (λ l. newly 0 (length now) 0 (end_behind 0 l) like.2 ++ l) (one_decision now are.0 like.0 are.1 like.1)
    ∙ sym like.4

-- ---- nothing before the first decision

not_due : (count : ℕ) → count < 2_048 → is_due count ≡ false
not_due count short = ap (λ b. b && (count % 1_024 == 0)) (lt-leb 2_048 count short)

pub nothing_yet : (steps : List Step) (all : List Placed) → length steps < 2_048 → AreDecided steps all → all ≡ []
nothing_yet [] all short are = are
nothing_yet (step ∷ steps) all short are =
    are.2.idle (not_due (length (step ∷ steps)) short) ∙ nothing_yet steps are.0 (omega arith) are.1

-- ---- what is decided stays

adds_in_front : (steps : List Step) (before all : List Placed) (due : Bool) → is_due (length steps) ≡ due
    → Adds steps before all → (new : List Placed) × (all ≡ new ++ before)
adds_in_front steps before all true due adds =
    let a = adds.due due in
    (newly DELAY (length steps) a.0 (end_behind 0 before) a.1, a.3)
adds_in_front steps before all false due adds = ([], adds.idle due)

pub decided_before : (step : Step) (steps : List Step) (all : List Placed) → AreDecided (step ∷ steps) all
    → (before new : List Placed) × AreDecided steps before × (all ≡ new ++ before)
decided_before step steps all are =
    let front = adds_in_front (step ∷ steps) are.0 all (is_due (length (step ∷ steps))) refl are.2 in
    (are.0, front.0, are.1, front.1)

-- ---- the order of time

-- the last of cells in the order of time, or the one before them
abbrev pub last_behind : Option Placed → List Placed → Option Placed
last_behind before [] = before
last_behind before (cell ∷ more) = last_behind (Some cell) more

joined-append : (before : Option Placed) (cells more : List Placed)
    → joined before (cells ++ more) ≡ joined before cells ++ joined (last_behind before cells) more
unfolding joined
joined-append before [] more = refl
joined-append before (cell ∷ cells) more =
    ap (λ l. record { placed = cell; jumps = jumps before cell } ∷ l) (joined-append (Some cell) cells more)

last_behind-append : (before : Option Placed) (cells : List Placed) (cell : Placed)
    → last_behind before (cells ++ cell ∷ []) ≡ Some cell
last_behind-append before [] cell = refl
last_behind-append before (c ∷ cells) cell = last_behind-append (Some c) cells cell

last_in_time : (all : List Placed) → last_behind None (reverse all) ≡ latest_of all
last_in_time [] = refl
last_in_time (cell ∷ all) =
    ap (last_behind None) (reverse-append (cell ∷ []) all) ∙ last_behind-append None (reverse all) cell

pub in_time-append : (new before : List Placed)
    → in_time (new ++ before) ≡ in_time before ++ joined (latest_of before) (reverse new)
in_time-append new before =
    ap (joined None) (reverse-append new before) ∙ joined-append None (reverse before) (reverse new)
    ∙ ap (λ b. in_time before ++ joined b (reverse new)) (last_in_time before)
