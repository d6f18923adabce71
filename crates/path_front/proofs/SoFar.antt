-- The intervals that samples bring so far: they are given, they are one list, and they come first in what more samples
-- bring.
use Rattle.std.proofs.Common.{◌≡◌, ℕ, zero, suc, ◌<◌, ◌≤◌, ◌||◌, ℤ, List, [], ◌∷◌}
use Rattle.std.proofs.Common.{◌++◌, length, reverse, take, drop, refl, ap, ap₂, subst, sym}
use Rattle.std.proofs.Common.{◌∙◌, arith}
use Rattle.std.specs.List.{flat_map}
use Rattle.std.proofs.lemmas.Grind.{flat_map-append}
use Rattle.std.proofs.lemmas.List.{append_assoc, append_cancel_right, length-drop}
use Rattle.std.proofs.lemmas.List.{length-reverse, length-take, reverse-append, take_all}
use Rattle.std.proofs.lemmas.List.{take-append-drop}
use Rattle.cell_path.specs.declared.cell.Step.{Step}
use Rattle.cell_path.specs.declared.placed.Placed.{Placed}
use Rattle.cell_path.specs.Decided.{end_behind, AreDecided, AreDecidedInAll}
use Rattle.cell_path.specs.Spaced.{AreApart}
use Rattle.step_grid.specs.declared.grid.Grid.{Grid}
use Rattle.path_front.specs.declared.gate.Ear.{Ear}
use Rattle.path_front.specs.declared.group.Sounds.{Sounds}
use Rattle.path_front.specs.declared.measured.Measured.{Measured}
use Rattle.path_front.specs.Cells.{measured_cells, EndWithin}
use Rattle.path_front.specs.Front.{intervals_before, intervals_of_judged, judgements, AreIntervals, AreIntervalsSoFar}
use Rattle.path_front.specs.Gate.{breaks, refuses_between, ear_of}
use Rattle.path_front.specs.Steps.{path_steps, sounds_of}
use Rattle.path_front.specs.Tiles.{tiles_of}
use Rattle.path_front.proofs.CellsNext.{cells_more}
use Rattle.path_front.proofs.GateJudges.{take_fewer}
use Rattle.path_front.proofs.GivenFirst.{all_sounds, decided_in_all, judged_first, measured_more}
use Rattle.path_front.proofs.GivenFirst.{path_more}
use Rattle.path_front.proofs.GivenFirst.{still_decided, written_first, DecidedOnce, DecidedStays}

-- ---- the gate hears no further than eight cells

near_more : (cell : Measured) (behind other : List Measured) → take 8 behind ≡ take 8 other
    → take 8 (cell ∷ behind) ≡ take 8 (cell ∷ other)
near_more cell behind other near =
    ap (λ l. cell ∷ l) (sym (take_fewer 7 behind) ∙ ap (take 7) near ∙ take_fewer 7 other)

breaks_near : (ear : Ear) (before : List Measured) (cell : Measured) (behind other : List Measured)
    → take 8 behind ≡ take 8 other → breaks ear before cell behind ≡ breaks ear before cell other
breaks_near ear before cell behind other near =
    ap (λ b. cell.jumps || refuses_between ear (take 8 before) cell b) near

same_judgements : (ear : Ear) (cells behind other : List Measured) → take 8 behind ≡ take 8 other
    → judgements ear cells behind ≡ judgements ear cells other
unfolding judgements
same_judgements ear [] behind other near = refl
same_judgements ear (cell ∷ before) behind other near =
    ap₂ (λ l b. l ++ record { cell = cell; breaks = b } ∷ [])
    (same_judgements ear before (cell ∷ behind) (cell ∷ other) (near_more cell behind other near))
    (breaks_near ear before cell behind other near)

-- ---- parts of lists

pub take_exact : (n : ℕ) (xs ys : List Measured) → length xs ≡ n → take n (xs ++ ys) ≡ xs
take_exact zero [] ys is = refl
take_exact (suc n) [] ys is = absurd (omega (arith, is))
take_exact zero (x ∷ xs) ys is = absurd (omega (arith, is))
take_exact (suc n) (x ∷ xs) ys is = ap (λ l. x ∷ l) (take_exact n xs ys (omega (arith, is)))

pub drop_exact : (n : ℕ) (xs ys : List Measured) → length xs ≡ n → drop n (xs ++ ys) ≡ ys
drop_exact zero [] ys is = refl
drop_exact (suc n) [] ys is = absurd (omega (arith, is))
drop_exact zero (x ∷ xs) ys is = absurd (omega (arith, is))
drop_exact (suc n) (x ∷ xs) ys is = drop_exact n xs ys (omega (arith, is))

-- what is dropped of more ends with what is dropped of fewer
one_more_drop : (n : ℕ) (cells : List Measured) → (front : List Measured) × (drop n cells ≡ front ++ drop (suc n) cells)
one_more_drop zero [] = ([], refl)
one_more_drop (suc n) [] = ([], refl)
one_more_drop zero (cell ∷ cells) = (cell ∷ [], refl)
one_more_drop (suc n) (cell ∷ cells) = one_more_drop n cells

drop_behind : (n : ℕ) (new cells : List Measured) → (front : List Measured)
    × (drop n (new ++ cells) ≡ front ++ drop n cells)
drop_behind n [] cells = ([], refl)
drop_behind zero (cell ∷ new) cells = (cell ∷ new, refl)
drop_behind (suc n) (cell ∷ new) cells =
    let rest = drop_behind n new cells in
    let one = one_more_drop n cells in
    (rest.0 ++ one.0, rest.1 ∙ ap (λ l. rest.0 ++ l) one.1 ∙ sym (append_assoc rest.0 one.0 (drop (suc n) cells)))

-- ---- the cells that wait are enough

waits_only : (ticks : ℕ) (ear : Ear) (judged ahead more : List Measured) → (0 < length judged → length ahead ≡ 8)
    → intervals_before ticks ear judged (ahead ++ more) ≡ intervals_before ticks ear judged ahead
unfolding judgements
waits_only ticks ear [] ahead more eight = refl
waits_only ticks ear (cell ∷ judged) ahead more eight =
    let long = eight (omega arith) in
    let same : take 8 (ahead ++ more) ≡ take 8 ahead =
    take_exact 8 ahead more long ∙ sym (take_all 8 ahead (omega (arith, long))) in
    ap (flat_map (tiles_of ticks)) (same_judgements ear (cell ∷ judged) (ahead ++ more) ahead same)

eight_ahead : (cells : List Measured) → 0 < length (drop 8 cells) → length (reverse (take 8 cells)) ≡ 8
eight_ahead cells some =
    let a = length-reverse (take 8 cells) in
    let b = length-take 8 cells in
    let c = length-drop 8 cells in
    omega (arith, a, b, c, some)

-- the intervals of cells in front of these and of those that enough others follow
judged_come_first : (ticks : ℕ) (ear : Ear) (cells front waiting : List Measured) (all : List Measured)
    → (front ++ take 8 cells) ++ drop 8 cells ≡ all → waiting ≡ reverse (front ++ take 8 cells)
    → intervals_before ticks ear (drop 8 cells) waiting ≡ intervals_of_judged ticks ear cells
judged_come_first ticks ear cells front waiting all is behind =
    ap (intervals_before ticks ear (drop 8 cells)) (behind ∙ reverse-append front (take 8 cells))
    ∙ waits_only ticks ear (drop 8 cells) (reverse (take 8 cells)) (reverse front) (eight_ahead cells)

-- of a whole sound
first_in_all : (ticks : ℕ) (ear : Ear) (new cells : List Measured) → (rest : List ℕ)
    × (intervals_before ticks ear (new ++ cells) [] ≡ intervals_of_judged ticks ear cells ++ rest)
first_in_all ticks ear new cells =
    let whole : new ++ cells ≡ (new ++ take 8 cells) ++ drop 8 cells =
    ap (λ l. new ++ l) (sym (take-append-drop 8 cells)) ∙ sym (append_assoc new (take 8 cells) (drop 8 cells)) in
    let written = written_first ticks ear (new ++ take 8 cells) (drop 8 cells) in (
      written.0,
      ap (λ c. intervals_before ticks ear c []) whole ∙ written.1
          ∙ ap (λ l. l ++ written.0)
          (judged_come_first ticks ear cells new (reverse (new ++ take 8 cells)) (new ++ cells)
          (sym whole) refl),
    )

-- of what more samples bring so far
pub first_so_far : (ticks : ℕ) (ear : Ear) (new cells : List Measured) → (rest : List ℕ)
    × (intervals_of_judged ticks ear (new ++ cells) ≡ intervals_of_judged ticks ear cells ++ rest)
first_so_far ticks ear new cells =
    let all = new ++ cells in
    let tail = drop_behind 8 new cells in
    let both : (take 8 all ++ tail.0) ++ drop 8 cells ≡ (new ++ take 8 cells) ++ drop 8 cells =
    append_assoc (take 8 all) tail.0 (drop 8 cells) ∙ ap (λ l. take 8 all ++ l) (sym tail.1) ∙ take-append-drop 8 all
    ∙ ap (λ l. new ++ l) (sym (take-append-drop 8 cells)) ∙ sym (append_assoc new (take 8 cells) (drop 8 cells)) in
    let front : take 8 all ++ tail.0 ≡ new ++ take 8 cells =
    append_cancel_right (take 8 all ++ tail.0) (new ++ take 8 cells) (drop 8 cells) both in
    let first = judged_first ear tail.0 (drop 8 cells) (reverse (take 8 all)) in
    let order : reverse tail.0 ++ reverse (take 8 all) ≡ reverse (new ++ take 8 cells) =
    sym (reverse-append (take 8 all) tail.0) ∙ ap reverse front in (
      flat_map (tiles_of ticks) first.0,
      ap (λ c. intervals_before ticks ear c (reverse (take 8 all))) tail.1
          ∙ ap (flat_map (tiles_of ticks)) first.1
          ∙ flat_map-append (tiles_of ticks) (judgements ear (drop 8 cells) (reverse tail.0 ++ reverse (take 8 all)))
          first.0
          ∙ ap (λ l. l ++ flat_map (tiles_of ticks) first.0)
          (judged_come_first ticks ear cells new (reverse tail.0 ++ reverse (take 8 all)) all
          (append_assoc new (take 8 cells) (drop 8 cells) ∙ ap (λ l. new ++ l) (take-append-drop 8 cells)) order),
    )

-- ---- the cells of more samples

abbrev pub DecidedWithin : Type 0
DecidedWithin = (steps : List Step) (all : List Placed) → AreDecided steps all
    → AreApart all × (end_behind 0 all ≤ length steps)

ends_within : (count : ℕ) (all : List Placed) → AreApart all → end_behind 0 all ≤ count → EndWithin count all
ends_within count [] apart within = tt
ends_within count (placed ∷ before) apart within =
    (within, ends_within count before apart.1 (omega (arith, apart.0, within)))

steps_length : (sounds : List Sounds) → length (path_steps sounds) ≡ length sounds
unfolding path_steps
steps_length [] = refl
steps_length (s ∷ sounds) = ap suc (steps_length sounds)

-- cells that are decided of some samples stay so, in what is decided of more
cells_grow : DecidedWithin → (grid : Grid) (least : ℕ) (more samples : List ℤ) (now later new : List Placed)
    → AreDecided (path_steps (sounds_of grid least samples)) now → later ≡ new ++ now
    → (cells : List Measured) × (measured_cells (sounds_of grid least (more ++ samples)) later
    ≡ cells ++ measured_cells (sounds_of grid least samples) now)
cells_grow within grid least more samples now later new decided is =
    let sounds = sounds_of grid least samples in
    let extra = all_sounds grid least more samples in
    let all = sounds_of grid least (more ++ samples) in
    let in_it = within (path_steps sounds) now decided in
    let many = steps_length sounds in
    let ends = ends_within (length sounds) now in_it.0 (omega (arith, in_it.1, many)) in
    let measured = measured_more all new now in (
      measured.0,
      ap (measured_cells all) is ∙ measured.1
          ∙ ap (λ l. measured.0 ++ l) (ap (λ s. measured_cells s now) extra.1 ∙ cells_more extra.0 sounds now ends),
    )

-- ---- the laws

pub so_far_once : DecidedOnce → (grid : Grid) (ticks least : ℕ) (samples : List ℤ) (intervals others : List ℕ)
    → AreIntervalsSoFar grid ticks least samples intervals → AreIntervalsSoFar grid ticks least samples others
    → intervals ≡ others
so_far_once once grid ticks least samples intervals others are like =
    let sounds = sounds_of grid least samples in
    are.intervals_are
    ∙ ap (λ c. intervals_of_judged ticks (ear_of grid least) (measured_cells sounds c))
    (once (path_steps sounds) are.cells like.cells are.decided like.decided)
    ∙ sym like.intervals_are

pub so_far_first : DecidedStays → DecidedOnce → DecidedWithin → (grid : Grid) (ticks least : ℕ) (more samples : List ℤ)
    (intervals longer : List ℕ) → AreIntervalsSoFar grid ticks least samples intervals
    → AreIntervalsSoFar grid ticks least (more ++ samples) longer → (rest : List ℕ) × (longer ≡ intervals ++ rest)
so_far_first stays once within grid ticks least more samples intervals longer are like =
    let sounds = sounds_of grid least samples in
    let extra = all_sounds grid least more samples in
    let path = path_more extra.0 sounds in
    let steps = ap path_steps extra.1 ∙ path.1 in
    let new = still_decided stays once path.0 (path_steps sounds) like.cells are.cells
    (subst (λ s. AreDecided s like.cells) steps like.decided) are.decided in
    let grown = cells_grow within grid least more samples are.cells like.cells new.0 are.decided new.1 in
    let first = first_so_far ticks (ear_of grid least) grown.0 (measured_cells sounds are.cells) in (
      first.0,
      like.intervals_are ∙ ap (intervals_of_judged ticks (ear_of grid least)) grown.1 ∙ first.1
          ∙ ap (λ l. l ++ first.0) (sym are.intervals_are),
    )

pub so_far_in_all : DecidedStays → DecidedOnce → DecidedWithin → (grid : Grid) (ticks least : ℕ) (more samples : List ℤ)
    (intervals whole : List ℕ) → AreIntervalsSoFar grid ticks least samples intervals
    → AreIntervals grid ticks least (more ++ samples) whole → (rest : List ℕ) × (whole ≡ intervals ++ rest)
so_far_in_all stays once within grid ticks least more samples intervals whole are like =
    let sounds = sounds_of grid least samples in
    let extra = all_sounds grid least more samples in
    let path = path_more extra.0 sounds in
    let steps = ap path_steps extra.1 ∙ path.1 in
    let new = decided_in_all stays once path.0 (path_steps sounds) like.cells are.cells
    (subst (λ s. AreDecidedInAll s like.cells) steps like.decided) are.decided in
    let grown = cells_grow within grid least more samples are.cells like.cells new.0 are.decided new.1 in
    let first = first_in_all ticks (ear_of grid least) grown.0 (measured_cells sounds are.cells) in (
      first.0,
      like.intervals_are ∙ ap (λ c. intervals_before ticks (ear_of grid least) c []) grown.1 ∙ first.1
          ∙ ap (λ l. l ++ first.0) (sym are.intervals_are),
    )
