-- A step at which a decision falls due adds what is gathered behind what was decided before.
use Rattle.std.proofs.Common.{◌≡◌, ℕ, ◌%◌, ◌<◌, ◌≤◌, List, [], ◌∷◌, ◌++◌, true, ◌&&◌, length, refl, ap, ap₂, arith}
use Rattle.std.proofs.Common.{subst, sym, ◌∙◌}
use Rattle.std.proofs.lemmas.Bool.{eq-eqb, false≢true, le-leb}
use Rattle.cell_path.specs.declared.cell.Cell.{Cell}
use Rattle.cell_path.specs.declared.cell.Step.{Step}
use Rattle.cell_path.specs.declared.follow.TheConstants.{DELAY}
use Rattle.cell_path.specs.declared.lengths.TheConstants.{LENGTHS}
use Rattle.cell_path.specs.declared.placed.Placed.{Placed}
use Rattle.cell_path.specs.Best.{IsBestOfAll}
use Rattle.cell_path.specs.declared.pending.Pending.{Pending}
use Rattle.cell_path.specs.Paths.{PathsState, PathsStandFor}
use Rattle.cell_path.specs.Pending.{steps_of, StandsWith}
use Rattle.cell_path.specs.Decided.{end_behind, is_due, newly, AreDecided, AreDecidedInAll}
use Rattle.cell_path.specs.Unfinished.{IsBestUnfinished}

due_now : (count : ℕ) → 2_048 ≤ count → count % 1_024 ≡ 0 → is_due count ≡ true
due_now count first whole = ap₂ (λ a b. a && b) (le-leb 2_048 count first) (eq-eqb (count % 1_024) 0 whole)

pub due_adds : (step : Step) (steps : List Step) (given waiting : List Placed) (count done : ℕ)
    → AreDecided steps given → count ≡ length (step ∷ steps) → done ≡ end_behind 0 given
    → 2_048 ≤ count → count % 1_024 ≡ 0
    → (ago : ℕ) × (path : List Cell) × IsBestUnfinished LENGTHS (step ∷ steps) ago path
    × (waiting ≡ newly DELAY count ago done path)
    → AreDecided (step ∷ steps) (waiting ++ given)
due_adds step steps given waiting count done are count_is done_is first whole gathers = (
  given,
  are,
  record {
    due = λ due. (
      gathers.0,
      gathers.1,
      gathers.2,
      ap (λ l. l ++ given) (gathers.3 ∙ ap₂ (λ n d. newly DELAY n gathers.0 d gathers.1) count_is done_is),
    );
    idle = λ idle. absurd (false≢true (sym idle ∙ sym (ap is_due count_is) ∙ due_now count first whole));
  },
)

-- the end of the sound adds what is gathered to its end
pub rest_adds : (steps : List Step) (given waiting : List Placed) (count done : ℕ)
    → AreDecided steps given → count ≡ length steps → done ≡ end_behind 0 given → 0 < count
    → (path : List Cell) × IsBestOfAll LENGTHS steps path × (waiting ≡ newly 0 count 0 done path)
    → AreDecidedInAll steps (waiting ++ given)
rest_adds [] given waiting count done are count_is done_is some gathers = absurd (omega (arith, count_is))
rest_adds (step ∷ steps) given waiting count done are count_is done_is some gathers = (
  given,
  are,
  gathers.0,
  gathers.1,
  ap (λ l. l ++ given) (gathers.2 ∙ ap₂ (λ n d. newly 0 n 0 d gathers.0) count_is done_is),
)

-- after a multiple of four steps none waits
pub whole_stands : (state : PathsState) (pending : Pending) (count : ℕ) (steps : List Step) → count % 1_024 ≡ 0
    → StandsWith state pending count steps → PathsStandFor state steps
whole_stands state pending count steps whole stands =
    let none : count % 4 ≡ 0 = omega (arith, whole) in
    let same : stands.before ≡ steps =
    sym (stands.steps_are ∙ ap (λ n. steps_of pending n ++ stands.before) none) in
    subst (PathsStandFor state) same stands.paths

-- where the latest ends, among all
pub end_of_all : (done : ℕ) (waiting given : List Placed) → done ≡ end_behind 0 given
    → end_behind done waiting ≡ end_behind 0 (waiting ++ given)
end_of_all done [] given is = is
end_of_all done (cell ∷ waiting) given is = refl
