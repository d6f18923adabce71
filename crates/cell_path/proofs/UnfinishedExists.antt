-- Each sound has a best unfinished path, and cells that are decided.
use Rattle.std.proofs.Common.{◌≡◌, ℕ, zero, suc, ◌+◌, ◌<◌, ◌≤◌, ◌⊎◌, inl, inr}
use Rattle.std.proofs.Common.{◌-◌, List, [], ◌∷◌, ◌++◌, Bool, true, false, length, drop, refl, subst, sym, ◌∙◌, arith}
use Rattle.std.proofs.lemmas.Bool.{false≢true}
use Rattle.std.proofs.lemmas.List.{length-drop}
use Rattle.cell_path.specs.declared.cell.Cell.{Cell}
use Rattle.cell_path.specs.declared.cell.Step.{Step}
use Rattle.cell_path.specs.declared.follow.TheConstants.{DELAY}
use Rattle.cell_path.specs.declared.lengths.TheConstants.{LENGTHS}
use Rattle.cell_path.specs.declared.placed.Placed.{Placed}
use Rattle.cell_path.specs.Best.{IsBestOfAll}
use Rattle.cell_path.specs.Decided.{end_behind, is_due, newly, Adds, AreDecided, AreDecidedInAll}
use Rattle.cell_path.specs.Four.{low}
use Rattle.cell_path.specs.Path.{IsPath}
use Rattle.cell_path.specs.Unfinished.{lack, IsBestUnfinished, LacksLess}
use Rattle.cell_path.proofs.LeastLack.{lacks_more, less_than, no_more_than, not_more}
use Rattle.cell_path.proofs.BestExists.{below_or_above, best_exists}

-- ---- the best of the unfinished

best_to : (steps : List Step) → 0 < length steps → (path : List Cell) × IsBestOfAll LENGTHS steps path
best_to [] some = absurd (omega arith)
best_to (step ∷ steps) some = best_exists step steps

-- of those that end with one of the latest `most` steps
record SomeUnfinished (steps : List Step) (most : ℕ) : Type 0 where
  ago : ℕ
  path : List Cell
  latest : ago < most
  within : ago < length steps
  is_best : IsBestOfAll LENGTHS (drop ago steps) path
  wins : (other : ℕ) (others : List Cell) → other < most → other < length steps
      → IsPath LENGTHS (drop other steps) others
      → LacksLess (lack LENGTHS (drop ago steps) path) ago (lack LENGTHS (drop other steps) others) other

below_or_last : (other more : ℕ) → other < suc more → (other < more) ⊎ (more ≡ other)
below_or_last other more low = grind (arith, low)

-- one step earlier there is a best path too
with_another : (steps : List Step) (more : ℕ) → more < length steps → SomeUnfinished steps more
    → SomeUnfinished steps (suc more)
with_another steps more within so_far =
    let e = length-drop more steps in
    let new = best_to (drop more steps) (omega (arith, e, within)) in
    let a = lack LENGTHS (drop so_far.ago steps) so_far.path in
    let b = lack LENGTHS (drop more steps) new.0 in
    let early = so_far.latest in
    elim (below_or_above b a) [
      | inl stays ↦ record {
        ago = so_far.ago;
        path = so_far.path;
        latest = omega (arith, early);
        within = so_far.within;
        is_best = so_far.is_best;
        wins = λ other others low in_sound is. elim (below_or_last other more low) [
          | inl below ↦ so_far.wins other others below in_sound is
          | inr last ↦
              let there : IsPath LENGTHS (drop more steps) others =
              subst (λ k. IsPath LENGTHS (drop k steps) others) (sym last) is in
              subst (λ k. LacksLess a so_far.ago (lack LENGTHS (drop k steps) others) k) last
              (no_more_than a b (lack LENGTHS (drop more steps) others) so_far.ago more
              (not_more a b so_far.ago more stays (omega (arith, early)))
              (lacks_more (drop more steps) new.0 others new.1 there))
        ];
      }
      | inr comes ↦ record {
        ago = more;
        path = new.0;
        latest = omega arith;
        within = within;
        is_best = new.1;
        wins = λ other others low in_sound is. elim (below_or_last other more low) [
          | inl below ↦ less_than b a (lack LENGTHS (drop other steps) others) more so_far.ago other comes
              (so_far.wins other others below in_sound is)
          | inr last ↦
              let there : IsPath LENGTHS (drop more steps) others =
              subst (λ k. IsPath LENGTHS (drop k steps) others) (sym last) is in
              subst (λ k. LacksLess b more (lack LENGTHS (drop k steps) others) k) last
              (not_more b (lack LENGTHS (drop more steps) others) more more
              (lacks_more (drop more steps) new.0 others new.1 there) (omega arith))
        ];
      }
    ]

-- or none, where no step is left
without_another : (steps : List Step) (more : ℕ) → length steps ≤ more → SomeUnfinished steps more
    → SomeUnfinished steps (suc more)
without_another steps more short so_far = record {
  ago = so_far.ago;
  path = so_far.path;
  latest = let early = so_far.latest in omega (arith, early);
  within = so_far.within;
  is_best = so_far.is_best;
  wins = λ other others low in_sound is. so_far.wins other others (omega (arith, short, in_sound)) in_sound is;
}

first_unfinished : (steps : List Step) → 0 < length steps → SomeUnfinished steps 1
first_unfinished steps some =
    let best = best_to steps some in
    record {
      ago = 0;
      path = best.0;
      latest = omega arith;
      within = some;
      is_best = best.1;
      wins = λ other others low in_sound is.
          let none : 0 ≡ other = omega (arith, low) in
          let here : IsPath LENGTHS steps others =
          subst (λ k. IsPath LENGTHS (drop k steps) others) (sym none) is in
          subst (λ k. LacksLess (lack LENGTHS steps best.0) 0 (lack LENGTHS (drop k steps) others) k) none
          (not_more (lack LENGTHS steps best.0) (lack LENGTHS steps others) 0 0
          (lacks_more steps best.0 others best.1 here) (omega arith));
    }

some_unfinished : (steps : List Step) (more : ℕ) → 0 < length steps → SomeUnfinished steps (suc more)
some_unfinished steps zero some = first_unfinished steps some
some_unfinished steps (suc more) some =
    let so_far = some_unfinished steps more some in
    let cases : (suc more < length steps) ⊎ (length steps ≤ suc more) = grind arith in
    elim cases [
      | inl within ↦ with_another steps (suc more) within so_far
      | inr short ↦ without_another steps (suc more) short so_far
    ]

pub unfinished_exists : (step : Step) (steps : List Step)
    → (ago : ℕ) × (path : List Cell) × IsBestUnfinished LENGTHS (step ∷ steps) ago path
unfinished_exists step steps =
    let all = some_unfinished (step ∷ steps) 95 (omega arith) in (
      all.ago,
      all.path,
      record {
        latest = all.latest;
        within = all.within;
        is_best = all.is_best;
        wins = λ other others is. all.wins other others is.latest is.within is.is_path;
      },
    )

-- ---- what is decided

adds_some : (step : Step) (steps : List Step) (before : List Placed) (due : Bool) → is_due (length (step ∷ steps)) ≡ due
    → (all : List Placed) × Adds (step ∷ steps) before all
adds_some step steps before true due =
    let best = unfinished_exists step steps in
    let all = newly DELAY (length (step ∷ steps)) best.0 (end_behind 0 before) best.1 ++ before in (
      all,
      record { due = λ is. (best.0, best.1, best.2, refl); idle = λ is. absurd (false≢true (sym is ∙ due)) },
    )
adds_some step steps before false due =
    (before, record { due = λ is. absurd (false≢true (sym due ∙ is)); idle = λ is. refl })

pub some_decided : (steps : List Step) → (all : List Placed) × AreDecided steps all
some_decided [] = ([], refl)
some_decided (step ∷ steps) =
    let before = some_decided steps in
    let adds = adds_some step steps before.0 (is_due (length (step ∷ steps))) refl in
    (adds.0, (before.0, before.1, adds.1))

pub some_in_all : (steps : List Step) → (all : List Placed) × AreDecidedInAll steps all
some_in_all [] = ([], refl)
some_in_all (step ∷ steps) =
    let before = some_decided (step ∷ steps) in
    let best = best_exists step steps in (
      newly 0 (length (step ∷ steps)) 0 (end_behind 0 before.0) best.0 ++ before.0,
      (before.0, before.1, best.0, best.1, refl),
    )
