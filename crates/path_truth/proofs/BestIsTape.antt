-- The best path of the sound has the greatest score there is, so it counts each step as the tape
-- does, and it is the tape: cells of twice the length come later in the order of paths.
use Rattle.std.proofs.Common.{◌≡◌, ℕ, ◌+◌, ◌*◌, ◌/◌, ◌<◌, ◌≤◌, inl, inr, List, [], ◌∷◌}
use Rattle.std.proofs.Common.{pos, refl, ap, subst, sym, ◌∙◌, arith}
use Rattle.std.proofs.lemmas.Int.{ints}
use Rattle.cell_path.specs.declared.cell.Bit.{Bit}
use Rattle.cell_path.specs.declared.cell.Bit.TheVariants.{Zero, One}
use Rattle.cell_path.specs.declared.cell.Cell.{Cell}
use Rattle.cell_path.specs.declared.cell.Sign.{Sign}
use Rattle.cell_path.specs.declared.cell.Sign.TheVariants.{Plus, Minus}
use Rattle.cell_path.specs.declared.cell.Step.{Step}
use Rattle.cell_path.specs.declared.cell.Way.{Way}
use Rattle.cell_path.specs.declared.cell.Way.TheVariants.{Same, Shorter, Longer, Jump}
use Rattle.cell_path.specs.declared.lengths.TheConstants.{LENGTHS}
use Rattle.cell_path.specs.Best.{rank_of_bit, rank_of_sign, rank_of_way, IsBestOfAll, StandsFirst, Wins}
use Rattle.cell_path.specs.Lengths.{length_in}
use Rattle.cell_path.specs.Path.{score, IsPath}
use Rattle.cell_path.specs.Unfinished.{sum_of_sizes}
use Rattle.path_truth.specs.Sides.{KeepsItsSides}
use Rattle.path_truth.specs.Tape.{GoOn, HasAZero, IsSteady}
use Rattle.path_truth.proofs.Exact.{exact}
use Rattle.path_truth.proofs.NoGreater.{score-most}
use Rattle.path_truth.proofs.Rising.{later_place, length_least, same_place}
use Rattle.path_truth.proofs.Runs.{runs, runs_of_cells, runs_with, same_first, same_runs, HaveRuns}
use Rattle.path_truth.proofs.SameCells.{as_long_or_half, same_cells}
use Rattle.path_truth.proofs.SteadyPath.{steady_path}
use Rattle.path_truth.proofs.TapeScore.{tape_heard, tape_path, tape_score}

-- ---- order

low_sign : (sign : Sign) → rank_of_sign sign ≤ 1
low_sign Plus = omega arith
low_sign Minus = omega arith

low_bit : (bit : Bit) → rank_of_bit bit ≤ 1
low_bit Zero = omega arith
low_bit One = omega arith

low_way : (way : Way) → rank_of_way way ≤ 3
low_way Same = omega arith
low_way Shorter = omega arith
low_way Longer = omega arith
low_way Jump = omega arith

low_rank : (cell : Cell) → 8 * rank_of_sign cell.sign + 4 * rank_of_bit cell.bit + rank_of_way cell.way < 16
low_rank cell =
    let a = low_sign cell.sign in let b = low_bit cell.bit in let c = low_way cell.way in omega (arith, a, b, c)

not_first : (cell other : Cell) (before others : List Cell) → other.place < cell.place
    → StandsFirst (cell ∷ before) (other ∷ others) → ⊥
not_first cell other before others later (inl less) = omega (arith, low_rank cell, low_rank other)
not_first cell other before others later (inr same) = omega (arith, same.0, low_rank cell, low_rank other)

-- ---- the best path is as good

record IsAsGood (steps : List Step) (path tape : List Cell) : Type 0 where
  pub score_is : score LENGTHS steps path ≡ pos (sum_of_sizes steps)
  pub first : StandsFirst path tape

as_good : (steps : List Step) (path tape : List Cell) → score LENGTHS steps tape ≡ pos (sum_of_sizes steps)
    → Wins (score LENGTHS steps path) path (score LENGTHS steps tape) tape → IsAsGood steps path tape
as_good steps path tape is (inl less) = absurd (omega (arith, ints, score-most LENGTHS steps path))
as_good steps path tape is (inr same) = record { score_is = omega (arith, ints, same.0); first = same.1 }

-- ---- and is the tape

-- both keep the sides of the sound
record IsKept (place : ℕ) (steps : List Step) (cells : List Cell) : Type 0 where
  pub within : place < 45
  pub go : GoOn place cells
  pub keeps : KeepsItsSides (length_in LENGTHS place) steps cells

kept_runs : (place : ℕ) (steps : List Step) (cell : Cell) (before : List Cell) → IsKept place steps (cell ∷ before)
    → HaveRuns cell.sign (runs (length_in LENGTHS place) (cell ∷ before)) steps
kept_runs place steps cell before is =
    runs_of_cells place (length_in LENGTHS place) cell.sign (cell ∷ before) steps (length_least place is.within) is.go
    refl is.keeps

same_sign : (a b : Bit) (n m : ℕ) (some more : List ℕ) (sign other : Sign) (steps : List Step)
    → HaveRuns sign (runs_with a n some) steps → HaveRuns other (runs_with b m more) steps → sign ≡ other
same_sign Zero Zero n m some more sign other steps one two = same_first sign other n m some more steps one two
same_sign Zero One n m some more sign other steps one two =
    same_first sign other n (m / 2) some (m / 2 ∷ more) steps one two
same_sign One Zero n m some more sign other steps one two =
    same_first sign other (n / 2) m (n / 2 ∷ some) more steps one two
same_sign One One n m some more sign other steps one two =
    same_first sign other (n / 2) (m / 2) (n / 2 ∷ some) (m / 2 ∷ more) steps one two

same_tape : (place : ℕ) (steps : List Step) (tape : List Cell) (cell : Cell) (before : List Cell)
    → HasAZero tape → IsKept place steps tape → IsKept cell.place steps (cell ∷ before)
    → StandsFirst (cell ∷ before) tape → cell ∷ before ≡ tape
same_tape place steps [] cell before has tape path first = absurd has
same_tape place steps (other ∷ others) cell before has tape path first =
    let n = length_in LENGTHS place in
    let m = length_in LENGTHS cell.place in
    let one = kept_runs place steps other others tape in
    let two = kept_runs cell.place steps cell before path in
    let same = same_runs other.sign cell.sign (runs n (other ∷ others)) (runs m (cell ∷ before)) steps one two in
    let sign : cell.sign ≡ other.sign = same_sign cell.bit other.bit m n (runs m before) (runs n others) cell.sign
    other.sign steps two one in
    let long = length_least place tape.within in
    elim (as_long_or_half n m (other ∷ others) (cell ∷ before) has same) [
      | inl as_long ↦ let at : cell.place ≡ place = same_place cell.place place path.within tape.within (sym as_long) in
          same_cells n place other.sign (cell ∷ before) (other ∷ others) long
          (subst (λ p. GoOn p (cell ∷ before)) at path.go) tape.go sign refl
          (ap (λ k. runs k (cell ∷ before)) as_long ∙ sym same)
      | inr half ↦
          let later = later_place place cell.place tape.within path.within (omega (arith, half, long)) in
          let at = tape.go.0.place_is in
          absurd (not_first cell other before others (omega (arith, later, at)) first)
    ]

of_cells : (place : ℕ) (steps : List Step) (tape path : List Cell) → HasAZero tape → IsKept place steps tape
    → IsPath LENGTHS steps tape → IsPath LENGTHS steps path → IsAsGood steps path tape → path ≡ tape
of_cells place steps [] path has kept tape is good = absurd has
of_cells place steps (other ∷ others) [] has kept tape is good = absurd (omega (arith, tape.0, is))
of_cells place steps (other ∷ others) (cell ∷ before) has kept tape is good =
    let heard = tape_heard (length_in LENGTHS place) steps (other ∷ others) kept.keeps in
    let steady = steady_path steps cell before heard is (exact LENGTHS steps (cell ∷ before) good.score_is) in
    let mine : IsKept cell.place steps (cell ∷ before) =
    record { within = is.1; go = steady.cells; keeps = steady.sides } in
    same_tape place steps (other ∷ others) cell before has kept mine good.first

pub best_is_tape : (place : ℕ) (tape path : List Cell) (steps : List Step) → IsSteady place tape
    → KeepsItsSides (length_in LENGTHS place) steps tape → IsBestOfAll LENGTHS steps path → path ≡ tape
best_is_tape place tape path steps steady keeps best =
    let is_path = tape_path place tape steps steady.in_list steady.cells keeps in
    let worth = tape_score place tape steps steady.cells keeps in
    let good = as_good steps path tape worth (best.wins tape is_path) in
    let kept : IsKept place steps tape =
    record { within = steady.in_list; go = steady.cells; keeps = keeps } in
    of_cells place steps tape path steady.zero kept is_path best.is_path good

nothing_kept : (place : ℕ) (tape : List Cell) → HasAZero tape → IsPath LENGTHS [] tape → ⊥
nothing_kept place [] has path = has
nothing_kept place (cell ∷ before) has path = omega (arith, path.0)

-- each sound has a best path, so the tape is one
pub tape_is_best : ((step : Step) (steps : List Step) → (path : List Cell) × IsBestOfAll LENGTHS (step ∷ steps) path)
    → (place : ℕ) (tape : List Cell) (steps : List Step) → IsSteady place tape
    → KeepsItsSides (length_in LENGTHS place) steps tape → IsBestOfAll LENGTHS steps tape
tape_is_best some place tape [] steady keeps =
    absurd (nothing_kept place tape steady.zero (tape_path place tape [] steady.in_list steady.cells keeps))
tape_is_best some place tape (step ∷ steps) steady keeps =
    let best = some step steps in
    subst (IsBestOfAll LENGTHS (step ∷ steps)) (best_is_tape place tape best.0
    (step ∷ steps) steady keeps best.1) best.1
