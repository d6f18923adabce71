-- If what is decided of a sound is its tape, its intervals are those of the tape.
use Rattle.std.proofs.Common.{◌≡◌, ℕ, ◌*◌, ◌≤◌, true, ℤ, List, [], ◌∷◌, length, ap, subst, sym, ◌∙◌, arith}
use Rattle.cell_path.specs.declared.cell.Cell.{Cell}
use Rattle.cell_path.specs.declared.cell.Step.{Step}
use Rattle.cell_path.specs.declared.lengths.TheConstants.{LENGTHS}
use Rattle.cell_path.specs.declared.placed.Placed.{Placed}
use Rattle.cell_path.specs.Decided.{placed, AreDecidedInAll}
use Rattle.cell_path.specs.Lengths.{length_in}
use Rattle.path_front.specs.Cells.{measured_cells}
use Rattle.path_front.specs.Front.{intervals_before, AreIntervals}
use Rattle.path_front.specs.Gate.{ear_of}
use Rattle.path_front.specs.Steps.{path_steps, sounds_of}
use Rattle.path_front.specs.Tiles.{cut}
use Rattle.step_grid.specs.declared.grid.Grid.TheVariants.{Repeat}
use Rattle.path_truth.specs.Intervals.{intervals_of_tape}
use Rattle.path_truth.specs.Sound.{IsSoundOf}
use Rattle.path_truth.proofs.OnSides.{keeps-long}
use Rattle.path_truth.proofs.PlainSound.{tape-in}
use Rattle.path_truth.proofs.Rising.{length_least}
use Rattle.path_truth.proofs.TapeIntervals.{tape-intervals, IsClear}

-- a sound has samples, so its sizes are in order
some-samples : (place : ℕ) (tape : List Cell) (repeats least low high : ℕ) (samples : List ℤ)
    → IsSoundOf place tape repeats least low high samples → low ≤ high
some-samples place [] repeats least low high samples is = absurd is.steady.zero
some-samples place (cell ∷ before) repeats least low high [] is =
    let long = keeps-long cell.bit cell.sign is.many [] is.sides.0 in
    let none : is.many ≡ 0 = omega (arith, long) in
    let same : is.many * repeats ≡ 0 = ap (λ m. m * repeats) none ∙ omega arith in
    absurd (omega (arith, same, is.cells, length_least place is.steady.in_list))
some-samples place (cell ∷ before) repeats least low high (sample ∷ samples) is =
    let one = is.level.sizes.0 in omega (arith, one.least, one.most)

-- all cells of the tape, and no others, are decided of these steps in all
abbrev pub IsDecidedWhole : List Step → List Cell → Type 0
IsDecidedWhole steps tape = (all : List Placed) → AreDecidedInAll steps all → all ≡ placed (length steps) tape

-- what the front gives for such a tape
abbrev pub intervals_in : ℕ → ℕ → List Cell → List ℕ
intervals_in place ticks tape = cut true (intervals_of_tape (length_in LENGTHS place * ticks) tape)

whole-intervals : (place : ℕ) (tape : List Cell) (repeats ticks least low high : ℕ) (samples : List ℤ)
    → IsSoundOf place tape repeats least low high samples → 5 * high ≤ 12 * low → 1 ≤ ticks
    → intervals_before ticks (ear_of (Repeat repeats) least) (measured_cells (sounds_of (Repeat repeats) least samples)
    (placed (length (path_steps (sounds_of (Repeat repeats) least samples))) tape)) [] ≡ intervals_in place ticks tape
whole-intervals place tape repeats ticks least low high samples is near some =
    let clear : IsClear least low high ticks =
    record {
      loud = is.level.some;
      heard = is.level.heard;
      order = some-samples place tape repeats least low high samples is;
      near = near;
      some = some;
    } in
    let sounds = sounds_of (Repeat repeats) least samples in
    tape-intervals place (ear_of (Repeat repeats) least) low high ticks (length (path_steps sounds)) sounds tape [] clear
    (tape-in place tape repeats least low high samples is) tt

pub intervals-only : (place : ℕ) (tape : List Cell) (repeats ticks least low high : ℕ) (samples : List ℤ)
    (intervals : List ℕ) → IsSoundOf place tape repeats least low high samples → 5 * high ≤ 12 * low → 1 ≤ ticks
    → IsDecidedWhole (path_steps (sounds_of (Repeat repeats) least samples)) tape
    → AreIntervals (Repeat repeats) ticks least samples intervals → intervals ≡ intervals_in place ticks tape
intervals-only place tape repeats ticks least low high samples intervals is near some decided are =
    let sounds = sounds_of (Repeat repeats) least samples in
    are.intervals_are
    ∙ ap (λ c. intervals_before ticks (ear_of (Repeat repeats) least) (measured_cells sounds c) []) (decided are.cells are.decided)
    ∙ whole-intervals place tape repeats ticks least low high samples is near some

pub intervals-are : ((steps : List Step) → (all : List Placed) × AreDecidedInAll steps all)
    → (place : ℕ) (tape : List Cell) (repeats ticks least low high : ℕ) (samples : List ℤ)
    → IsSoundOf place tape repeats least low high samples → 5 * high ≤ 12 * low → 1 ≤ ticks
    → IsDecidedWhole (path_steps (sounds_of (Repeat repeats) least samples)) tape
    → AreIntervals (Repeat repeats) ticks least samples (intervals_in place ticks tape)
intervals-are each place tape repeats ticks least low high samples is near some decided =
    let sounds = sounds_of (Repeat repeats) least samples in
    let steps = path_steps sounds in
    let all = each steps in
    record {
      cells = placed (length steps) tape;
      decided = subst (AreDecidedInAll steps) (decided all.0 all.1) all.1;
      intervals_are = sym (whole-intervals place tape repeats ticks least low high samples is near some);
    }
