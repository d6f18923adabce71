-- What is decided of the tape while the sound goes on.
use Rattle.std.proofs.Common.{◌≡◌, ℕ, zero, suc, ◌-◌, ◌*◌, ◌/◌, ◌<◌}
use Rattle.std.proofs.Common.{List, [], ◌∷◌, length, drop, refl, ap, subst, sym, ◌∙◌, arith}
use Rattle.std.proofs.Math.Nat.{le-div_iff_mul-le}
use Rattle.std.proofs.lemmas.List.{length-drop}
use Rattle.cell_path.specs.declared.cell.Cell.{Cell}
use Rattle.cell_path.specs.declared.cell.Step.{Step}
use Rattle.cell_path.specs.declared.follow.TheConstants.{FIRST}
use Rattle.cell_path.specs.declared.lengths.TheConstants.{LENGTHS}
use Rattle.cell_path.specs.declared.placed.Placed.{Placed}
use Rattle.cell_path.specs.Decided.{placed, AreDecided}
use Rattle.cell_path.specs.Lengths.{length_in}
use Rattle.path_truth.specs.Early.{HasAnEarlyZero}
use Rattle.path_truth.specs.Sides.{KeepsItsSides}
use Rattle.path_truth.specs.SoFar.{ended_in_time}
use Rattle.path_truth.specs.Tape.{HasAZero, IsSteady}
use Rattle.path_truth.proofs.OpenTape.{cells-many}
use Rattle.path_truth.proofs.Rising.{length_least}
use Rattle.path_truth.proofs.DecidedTape.{AreInTime, AreSoFar, are-cells, begun, in-time-more, one_fewer, so-far}
use Rattle.path_truth.proofs.DecidedTape.{step-behind, step-within}

-- ---- while the sound goes on

-- with fewer of the latest steps there are fewer cells, and those that ended in time are the same
record Fewer (place n count k : ℕ) (steps : List Step) (tape : List Cell) : Type 0 where
  rest : ℕ
  cells : List Cell
  are : AreSoFar place n rest (drop k steps) cells
  same : (all : List Placed) → AreInTime n count cells all → AreInTime n count tape all

fewer : (place n r count k : ℕ) (steps : List Step) (tape : List Cell) → AreSoFar place n r steps tape
    → count ≡ length (drop k steps) → Fewer place n count k steps tape
fewer place n r count zero steps tape are is =
    record { rest = r; cells = tape; are = are; same = λ all in_time. in_time }
fewer place n r count (suc k) [] tape are is =
    record { rest = r; cells = tape; are = are; same = λ all in_time. in_time }
fewer place n (suc r) count (suc k) (step ∷ steps) tape are is =
    let more = fewer place n r count k steps tape (step-within place n r step steps tape are) is in
    record { rest = more.rest; cells = more.cells; are = more.are; same = more.same }
fewer place n zero count (suc k) (step ∷ steps) [] are is = absurd (omega (arith, are.long))
fewer place n zero count (suc k) (step ∷ steps) (cell ∷ before) are is =
    let next = step-behind place n (n - 1) step steps cell before (one_fewer n are.some) are in
    let more = fewer place n (n - 1) count k steps before next is in
    let e = length-drop k steps in
    record {
      rest = more.rest;
      cells = more.cells;
      are = more.are;
      same = λ all in_time. in-time-more place n count cell before all
          (are-cells place n 0 (step ∷ steps) (cell ∷ before) are) (omega (arith, are.long, e, is))
          (more.same all in_time);
    }

pub tape-so-far : (place : ℕ) (tape : List Cell) (steps : List Step) (later : ℕ) (all : List Placed)
    → IsSteady place tape → KeepsItsSides (length_in LENGTHS place) steps tape
    → HasAnEarlyZero (length_in LENGTHS place) tape → AreDecided (drop later steps) all
    → all ≡ ended_in_time (length (drop later steps)) (placed (length steps) tape)
tape-so-far place tape steps later all steady keeps early decided =
    let n = length_in LENGTHS place in
    let count = length (drop later steps) in
    let less = fewer place n 0 count later steps tape (begun place tape steps steady keeps early) refl in
    let is = less.same all (so-far place n less.rest (drop later steps) less.cells all less.are decided) in
    let long : length tape * n ≡ length steps = sym (cells-many n steps tape keeps) in
    is ∙ ap (λ k. ended_in_time count (placed k tape)) long

-- if the sound ends before the first decision falls due, all cells have ended then
pub short-is-early : (place : ℕ) (tape : List Cell) (steps : List Step) → IsSteady place tape
    → KeepsItsSides (length_in LENGTHS place) steps tape → length steps < FIRST
    → HasAnEarlyZero (length_in LENGTHS place) tape
short-is-early place tape steps steady keeps short =
    let n = length_in LENGTHS place in
    let least = length_least place steady.in_list in
    let many = cells-many n steps tape keeps in
    let few = (le-div_iff_mul-le {k = n} {x = length tape} {y = FIRST} (omega (arith, least))).1
    (omega (arith, many, short)) in
    let none : 0 ≡ length tape - FIRST / n = omega (arith, few) in
    subst (λ k. HasAZero (drop k tape)) none steady.zero
