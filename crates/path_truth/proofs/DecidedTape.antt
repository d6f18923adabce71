-- Each decision decides the cells of the tape that ended long enough ago, and the end of the sound
-- decides the others.
use Rattle.std.proofs.Common.{◌≡◌, ℕ, zero, suc, ◌+◌, ◌-◌, ◌*◌, ◌/◌, ◌<◌, ◌≤◌, ◌⊎◌, inl, inr}
use Rattle.std.proofs.Common.{Bool, true, false}
use Rattle.std.proofs.Common.{List, [], ◌∷◌, ◌++◌, length, drop, refl, ap, ap₂, subst, sym, ◌∙◌, arith}
use Rattle.std.specs.List.{filter}
use Rattle.std.proofs.Math.Nat.{le-div_iff_mul-le, suc-mul}
use Rattle.cell_path.specs.declared.cell.Cell.{Cell}
use Rattle.cell_path.specs.declared.cell.Step.{Step}
use Rattle.cell_path.specs.declared.follow.TheConstants.{DELAY, FIRST}
use Rattle.cell_path.specs.declared.lengths.TheConstants.{LENGTHS}
use Rattle.cell_path.specs.declared.placed.Placed.{Placed}
use Rattle.cell_path.specs.Decided.{end_behind, is_decided, is_due, newly, placed, Adds, AreDecided, AreDecidedInAll}
use Rattle.cell_path.specs.Lengths.{length_in}
use Rattle.cell_path.specs.Unfinished.{IsBestUnfinished}
use Rattle.path_truth.specs.Early.{HasAnEarlyZero}
use Rattle.path_truth.specs.Sides.{KeepsItsSides}
use Rattle.path_truth.specs.SoFar.{ended_in_time, latest_decision}
use Rattle.path_truth.specs.Tape.{GoOn, HasAZero, IsSteady}
use Rattle.path_truth.proofs.BestIsTape.{best_is_tape}
use Rattle.path_truth.proofs.OpenTape.{cells-many, part-less, unfinished-is-tape, IsPart}
use Rattle.path_truth.proofs.Rising.{length_least}
use Rattle.path_truth.proofs.Sections.{all-decided}
use Rattle.path_truth.proofs.DecidedByAge.{later-behind, new-waits, none-old, old, old-decided, old-end}
use Rattle.path_truth.proofs.Sections.{AreCells}
use Rattle.path_truth.proofs.FallsDue.{due-first, latest-due, latest-most, latest-stays}

-- ---- the cells so far

-- the steps are those of these cells, and r more of the next
pub record AreSoFar (place n r : ℕ) (steps : List Step) (tape : List Cell) : Type 0 where
  pub in_list : place < 45
  pub length_is : length_in LENGTHS place ≡ n
  pub some : 1 ≤ n
  pub less : r < n
  pub go : GoOn place tape
  pub keeps : KeepsItsSides n (drop r steps) tape
  pub long : length steps ≡ length tape * n + r
  pub part : 0 < r → IsPart place n r steps tape
  pub zero : FIRST / n ≤ length tape → HasAnEarlyZero n tape

pub are-cells : (place n r : ℕ) (steps : List Step) (tape : List Cell) → AreSoFar place n r steps tape
    → AreCells place n (length tape * n) tape
are-cells place n r steps tape are = record { some = are.some; long = are.length_is; go = are.go; ends = refl }

zero-behind : (k : ℕ) (tape : List Cell) → HasAZero (drop k tape) → HasAZero tape
zero-behind zero tape has = has
zero-behind (suc k) [] has = has
zero-behind (suc k) (cell ∷ before) has = inr (zero-behind k before has)

-- one step fewer, within a cell
part-within : (place n r : ℕ) (step : Step) (steps : List Step) (tape : List Cell) → suc r < n → 0 < r
    → IsPart place n (suc r) (step ∷ steps) tape → IsPart place n r steps tape
part-within place n r step steps tape less some part =
    let one : suc r - 1 ≡ r = omega arith in
    subst (λ k. IsPart place n k steps tape) one
    (part-less place n (suc r) 1 (step ∷ steps) tape (omega arith) (omega (arith, less)) part)

pub step-within : (place n r : ℕ) (step : Step) (steps : List Step) (tape : List Cell)
    → AreSoFar place n (suc r) (step ∷ steps) tape → AreSoFar place n r steps tape
step-within place n r step steps tape are = record {
  in_list = are.in_list;
  length_is = are.length_is;
  some = are.some;
  less = omega (arith, are.less);
  go = are.go;
  keeps = are.keeps;
  long = omega (arith, are.long);
  part = λ some. part-within place n r step steps tape are.less some (are.part (omega arith));
  zero = are.zero;
}

zero-before : (n : ℕ) (cell : Cell) (before : List Cell)
    → (FIRST / n ≤ length (cell ∷ before) → HasAnEarlyZero n (cell ∷ before)) → FIRST / n ≤ length before
    → HasAnEarlyZero n before
zero-before n cell before has enough =
    let less : length (cell ∷ before) - FIRST / n ≡ suc (length before - FIRST / n) = omega (arith, enough) in
    subst (λ k. HasAZero (drop k (cell ∷ before))) less (has (omega (arith, enough)))

-- one step fewer, behind a cell
pub step-behind : (place n m : ℕ) (step : Step) (steps : List Step) (cell : Cell) (before : List Cell) → n ≡ suc m
    → AreSoFar place n 0 (step ∷ steps) (cell ∷ before) → AreSoFar place n m steps before
step-behind place n m step steps cell before is are = record {
  in_list = are.in_list;
  length_is = are.length_is;
  some = are.some;
  less = omega (arith, is);
  go = are.go.1;
  keeps = subst (λ k. KeepsItsSides n (drop k (step ∷ steps)) before) is are.keeps.1;
  long = omega (arith, are.long, suc-mul (length before) n, is);
  part = λ some. record {
    cell = cell;
    whole = step ∷ steps;
    goes = are.go.0;
    keeps = are.keeps;
    front = let one : 1 ≡ n - m = omega (arith, is) in ap (λ k. drop k (step ∷ steps)) one;
  };
  zero = zero-before n cell before are.zero;
}

-- what is decided are the cells that ended in time
abbrev pub AreInTime : ℕ → ℕ → List Cell → List Placed → Type 0
AreInTime n count tape all = all ≡ ended_in_time count (placed (length tape * n) tape)

-- also with a cell more, which has just ended
pub in-time-more : (place n count : ℕ) (cell : Cell) (before : List Cell) (all : List Placed)
    → AreCells place n (length (cell ∷ before) * n) (cell ∷ before) → count ≤ length (cell ∷ before) * n
    → AreInTime n count before all → AreInTime n count (cell ∷ before) all
in-time-more place n count cell before all are within is =
    let e = length (cell ∷ before) * n in
    let less : length before * n ≡ e - n = omega (arith, suc-mul (length before) n) in
    let most = latest-most count in
    is ∙ ap (λ k. ended_in_time count (placed k before)) less
    ∙ sym (new-waits place n e 800 (latest_decision count) cell before are (omega (arith, most, within)))

-- the path at a decision is the tape so far
enough-cells : (n r count cells : ℕ) → 1 ≤ n → r < n → count ≡ cells * n + r → FIRST ≤ count → FIRST / n ≤ cells
enough-cells n r count cells some less long enough =
    let cases : (FIRST / n ≤ cells) ⊎ (cells + 1 ≤ FIRST / n) = grind arith in
    elim cases [
      | inl is ↦ is
      | inr more ↦
          let all = (le-div_iff_mul-le {k = n} {x = cells + 1} {y = FIRST} some).0 more in
          let next : (cells + 1) * n ≡ n + cells * n = omega (arith, suc-mul cells n) in
          absurd (omega (arith, all, next, long, less, enough))
    ]

has-some : (tape : List Cell) → HasAZero tape → 0 < length tape
has-some [] has = absurd has
has-some (cell ∷ before) has = omega arith

path-so-far : (place n r : ℕ) (steps : List Step) (tape : List Cell) (ago : ℕ) (path : List Cell)
    → AreSoFar place n r steps tape → FIRST ≤ length steps → IsBestUnfinished LENGTHS steps ago path
    → (ago ≡ r) × (path ≡ tape)
path-so-far place n r steps tape ago path are enough best =
    let early = are.zero (enough-cells n r (length steps) (length tape) are.some are.less are.long enough) in
    let has = zero-behind (length tape - FIRST / n) tape early in
    let steady : IsSteady place tape = record { in_list = are.in_list; cells = are.go; zero = has } in
    let back = sym are.length_is in
    unfinished-is-tape place r steps tape ago path steady (omega (arith, are.less, are.length_is))
    (subst (λ k. KeepsItsSides k (drop r steps) tape) back are.keeps)
    (λ some. subst (λ k. IsPart place k r steps tape) back (are.part some))
    (subst (λ k. length steps ≡ length tape * k + r) back are.long) (has-some tape has) best

-- the cells of a path that ends there, behind those that were decided before
abbrev newly-at : ℕ → ℕ → ℕ → ℕ → ℕ → List Cell → List Placed
newly-at delay count p end e tape =
    filter (is_decided delay count (end_behind 0 (drop p (placed e tape)))) (placed end tape) ++ drop p (placed e tape)

decided-now : (place n r count now ago : ℕ) (tape path : List Cell) (before all : List Placed)
    → AreCells place n (length tape * n) tape → now ≡ length tape * n + r → latest_decision count ≤ now
    → latest_decision now ≡ now → (ago ≡ r) × (path ≡ tape) → AreInTime n count tape before
    → all ≡ newly DELAY now ago (end_behind 0 before) path ++ before → AreInTime n now tape all
decided-now place n r count now ago tape path before all are long order due is so_far adds =
    let e = length tape * n in
    let end : now - r ≡ e = omega (arith, long) in
    let last = old-end place n e DELAY (latest_decision count) tape are in
    let was : before ≡ drop last.p (placed e tape) = so_far ∙ last.is in
    adds ∙ ap (λ k. newly DELAY now k (end_behind 0 before) path ++ before) is.0
    ∙ ap₂ (λ p b. newly DELAY now r (end_behind 0 b) p ++ b) is.1 was
    ∙ ap (λ k. newly-at DELAY now last.p k e tape) end
    ∙ old-decided place n e last.p DELAY now tape are
    (later-behind n e last.p DELAY (latest_decision count) now tape order last.behind)
    ∙ ap (λ k. filter (old DELAY k) (placed e tape)) (sym due)

add : (due : Bool) (place n r : ℕ) (step : Step) (steps : List Step) (tape : List Cell) (before all : List Placed)
    → AreSoFar place n r (step ∷ steps) tape → is_due (length (step ∷ steps)) ≡ due
    → AreInTime n (length steps) tape before → Adds (step ∷ steps) before all
    → AreInTime n (length (step ∷ steps)) tape all
add false place n r step steps tape before all are is so_far adds =
    adds.idle is ∙ so_far
    ∙ ap (λ k. filter (old DELAY k) (placed (length tape * n) tape)) (sym (latest-stays (length steps) is))
add true place n r step steps tape before all are is so_far adds =
    let now = adds.due is in
    let count = length (step ∷ steps) in
    let most = latest-most (length steps) in
    decided-now place n r (length steps) count now.0 tape now.1 before all (are-cells place n r (step ∷ steps) tape are)
    are.long (omega (arith, most)) (latest-due count is)
    (path-so-far place n r (step ∷ steps) tape now.0 now.1 are (due-first count is) now.2) so_far now.3

pub one_fewer : (n : ℕ) → 1 ≤ n → n ≡ suc (n - 1)
one_fewer n some = omega arith

pub so-far : (place n r : ℕ) (steps : List Step) (tape : List Cell) (all : List Placed)
    → AreSoFar place n r steps tape → AreDecided steps all → AreInTime n (length steps) tape all
so-far place n r [] tape all are decided =
    decided ∙ sym (none-old place n (length tape * n) 800 0 tape (are-cells place n r [] tape are) (omega arith))
so-far place n (suc r) (step ∷ steps) tape all are decided =
    let more = so-far place n r steps tape decided.0 (step-within place n r step steps tape are) decided.1 in
    add (is_due (length (step ∷ steps))) place n (suc r) step steps tape decided.0 all are refl more decided.2
so-far place n zero (step ∷ steps) [] all are decided = absurd (omega (arith, are.long))
so-far place n zero (step ∷ steps) (cell ∷ before) all are decided =
    let next = step-behind place n (n - 1) step steps cell before (one_fewer n are.some) are in
    let more = so-far place n (n - 1) steps before decided.0 next decided.1 in
    add (is_due (length (step ∷ steps))) place n 0 step steps (cell ∷ before) decided.0 all are refl
    (in-time-more place n (length steps) cell before decided.0
    (are-cells place n 0 (step ∷ steps) (cell ∷ before) are) (omega (arith, are.long)) more) decided.2

-- ---- the whole sound

whole : (place n : ℕ) (steps : List Step) (tape : List Cell) (all : List Placed) → HasAZero tape
    → AreSoFar place n 0 steps tape → AreDecidedInAll steps all → all ≡ placed (length steps) tape
whole place n [] [] all has are decided = absurd has
whole place n [] (cell ∷ before) all has are decided =
    let some = are.some in absurd (omega (arith, are.long, suc-mul (length before) n, some))
whole place n (step ∷ steps) tape all has are decided =
    let now = step ∷ steps in
    let count = length now in
    let e = length tape * n in
    let long : count ≡ e = omega (arith, are.long) in
    let end : count - 0 ≡ e = omega (arith, are.long) in
    let cells = are-cells place n 0 now tape are in
    let last = old-end place n e DELAY (latest_decision count) tape cells in
    let so_far : decided.0 ≡ drop last.p (placed e tape) =
    so-far place n 0 now tape decided.0 are decided.1 ∙ last.is in
    let steady : IsSteady place tape = record { in_list = are.in_list; cells = are.go; zero = has } in
    let path = best_is_tape place tape decided.2 now steady
    (subst (λ k. KeepsItsSides k now tape) (sym are.length_is) are.keeps) decided.3 in
    decided.4 ∙ ap₂ (λ p b. newly 0 count 0 (end_behind 0 b) p ++ b) path so_far
    ∙ ap (λ k. newly-at 0 count last.p k e tape) end
    ∙ all-decided place n e last.p 0 count tape cells (omega (arith, long))
    ∙ ap (λ k. placed k tape) (sym long)

pub begun : (place : ℕ) (tape : List Cell) (steps : List Step) → IsSteady place tape
    → KeepsItsSides (length_in LENGTHS place) steps tape → HasAnEarlyZero (length_in LENGTHS place) tape
    → AreSoFar place (length_in LENGTHS place) 0 steps tape
begun place tape steps steady keeps early =
    let n = length_in LENGTHS place in
    let least = length_least place steady.in_list in
    record {
      in_list = steady.in_list;
      length_is = refl;
      some = omega (arith, least);
      less = omega (arith, least);
      go = steady.cells;
      keeps = keeps;
      long = omega (arith, cells-many n steps tape keeps);
      part = λ none. absurd (omega (arith, none));
      zero = λ enough. early;
    }

pub decided-tape : (place : ℕ) (tape : List Cell) (steps : List Step) (all : List Placed) → IsSteady place tape
    → KeepsItsSides (length_in LENGTHS place) steps tape → HasAnEarlyZero (length_in LENGTHS place) tape
    → AreDecidedInAll steps all → all ≡ placed (length steps) tape
decided-tape place tape steps all steady keeps early decided =
    whole place (length_in LENGTHS place) steps tape all steady.zero (begun place tape steps steady keeps early) decided
