-- The intervals of a sound are one list, and they last as long as its steps, but for the last of them: fewer than 25.
use Rattle.std.proofs.Common.{◌≡◌, ℕ, suc, ◌+◌, ◌-◌, ◌*◌, ◌<◌, ◌≤◌, ◌==◌, min, Bool, true, false, ◌||◌, cond, ltb, ℤ, T}
use Rattle.std.proofs.Common.{◌≢◌, Some, None}
use Rattle.std.proofs.Common.{List, [], ◌∷◌, ◌++◌, length, replicate, refl, ap, ap₂, subst, sym, ◌∙◌, arith}
use Rattle.std.specs.List.{flat_map, sum}
use Rattle.std.specs.Option.{option_to_list}
use Rattle.std.specs.Int.{div_ceil}
use Rattle.std.proofs.Math.Nat.{add-mul, mul-le-mul_left, suc-mul}
use Rattle.std.proofs.Math.Facts.{eqb_yes}
use Rattle.std.proofs.lemmas.Bool.{eqb-false}
use Rattle.std.proofs.lemmas.List.{length-append, length-replicate}
use Rattle.std.proofs.lemmas.List.Sums.{sum_by-append}
use Rattle.cell_path.specs.declared.cell.Bit.{Bit}
use Rattle.cell_path.specs.declared.cell.Bit.TheVariants.{Zero, One}
use Rattle.cell_path.specs.declared.cell.Step.{Step}
use Rattle.cell_path.specs.declared.placed.Placed.{Placed}
use Rattle.cell_path.specs.Decided.{end_behind, AreDecidedInAll}
use Rattle.cell_path.specs.Spaced.{AreApart}
use Rattle.path_front.specs.declared.gate.Ear.{Ear}
use Rattle.path_front.specs.declared.gate.Judged.{Judged}
use Rattle.step_grid.specs.declared.grid.Grid.{Grid}
use Rattle.step_grid.specs.declared.grid.Grid.TheVariants.{Repeat, Sum}
use Rattle.path_front.specs.declared.group.Sounds.{Sounds}
use Rattle.path_front.specs.declared.measured.Measured.{Measured}
use Rattle.path_front.specs.Cells.{cell_behind, measured_cells}
use Rattle.path_front.specs.Clip.{clipped}
use Rattle.path_front.specs.Front.{intervals_before, judgements, AreIntervals}
use Rattle.path_front.specs.Gate.{breaks, ear_of}
use Rattle.path_front.specs.Grid.{mean_of, on_grid, waiting}
use Rattle.step_grid.specs.Grid.{AreStepsOf, IsGrid}
use Rattle.path_front.specs.Steps.{path_steps, sounds_of, with_held}
use Rattle.path_front.specs.Tiles.{cut, intervals, tiles_of}
use Rattle.path_front.proofs.FrontNext.{flat_pushed}

-- ---- one list

-- what is decided in all is one list, and covers the steps
abbrev pub IsOneList : Type 0
IsOneList = (steps : List Step) (all others : List Placed) → AreDecidedInAll steps all → AreDecidedInAll steps others
    → all ≡ others

abbrev pub TheyCover : Type 0
TheyCover = (steps : List Step) (all : List Placed) → AreDecidedInAll steps all
    → AreApart all × (end_behind 0 all ≤ length steps) × (length steps ≤ end_behind 0 all + 24)

pub one_list : IsOneList → (grid : Grid) (ticks least : ℕ) (samples : List ℤ) (intervals others : List ℕ)
    → AreIntervals grid ticks least samples intervals → AreIntervals grid ticks least samples others
    → intervals ≡ others
one_list one_in_all grid ticks least samples intervals others are like =
    let sounds = sounds_of grid least samples in
    are.intervals_are
    ∙ ap (λ c. intervals_before ticks (ear_of grid least) (measured_cells sounds c) [])
    (one_in_all (path_steps sounds) are.cells like.cells are.decided like.decided)
    ∙ sym like.intervals_are

-- ---- how long they last

one_lasts : (breaks : Bool) (whole : ℕ) → 2 ≤ whole → sum (cut breaks (whole ∷ [])) ≡ whole
one_lasts false whole long = omega arith
one_lasts true whole long = omega arith

two_last : (breaks : Bool) (first second whole : ℕ) → 2 ≤ first → first + second ≡ whole
    → sum (cut breaks (first ∷ second ∷ [])) ≡ whole
two_last false first second whole long is = omega (arith, is)
two_last true first second whole long is = omega (arith, is)

they_last : (bit : Bit) (breaks : Bool) (whole half : ℕ) → 2 ≤ whole → sum (intervals bit breaks whole half) ≡ whole
they_last Zero breaks whole half long = one_lasts breaks whole long
they_last One breaks whole half long =
    two_last (breaks || ltb whole (half + 2)) (whole - min half (whole - 2)) (min half (whole - 2)) whole (omega arith)
    (omega arith)

tiles_last : (ticks : ℕ) (judged : Judged) → 2 ≤ ticks → 2 ≤ judged.cell.span
    → sum (tiles_of ticks judged) ≡ judged.cell.span * ticks
tiles_last ticks judged some span =
    let long = mul-le-mul_left ticks span in
    they_last judged.cell.bit judged.breaks (judged.cell.span * ticks) (div_ceil (judged.cell.length * ticks) 2)
    (omega (arith, long))

-- up to a place, and from there on
whole_of : (from to ticks : ℕ) → from ≤ to → from * ticks + (to - from) * ticks ≡ to * ticks
whole_of from to ticks order = sym (add-mul from (to - from) ticks) ∙ ap (λ n. n * ticks) (omega arith)

-- cells that end apart last as long as the latest of them ends
cells_last : (ticks : ℕ) (ear : Ear) (sounds : List Sounds) (cells : List Placed) (behind : List Measured) → 2 ≤ ticks
    → AreApart cells
    → sum (intervals_before ticks ear (measured_cells sounds cells) behind) ≡ end_behind 0 cells * ticks
unfolding measured_cells judgements
cells_last ticks ear sounds [] behind some apart = omega arith
cells_last ticks ear sounds (placed ∷ before) behind some apart =
    let cell = cell_behind sounds placed before in
    let others = measured_cells sounds before in
    let judged : Judged = record { cell = cell; breaks = breaks ear others cell behind } in
    let e = end_behind 0 before in
    let rest = cells_last ticks ear sounds before (cell ∷ behind) some apart.1 in
    let one = tiles_last ticks judged some (omega (arith, apart.0)) in
    let all = ap sum (flat_pushed ticks (judgements ear others (cell ∷ behind)) judged)
    ∙ sum_by-append (λ x. x) (flat_map (tiles_of ticks) (judgements ear others (cell ∷ behind)))
    (tiles_of ticks judged)
    ∙ ap₂ (λ a b. a + b) rest one in
    all ∙ whole_of e placed.end ticks (omega (arith, apart.0))

steps_length : (sounds : List Sounds) → length (path_steps sounds) ≡ length sounds
unfolding path_steps
steps_length [] = refl
steps_length (s ∷ sounds) = ap suc (steps_length sounds)

pub they_cover : TheyCover → (grid : Grid) (ticks least : ℕ) (samples : List ℤ) (intervals : List ℕ) → 2 ≤ ticks
    → AreIntervals grid ticks least samples intervals
    → (sum intervals ≤ ticks * length (sounds_of grid least samples))
    × (ticks * length (sounds_of grid least samples) ≤ sum intervals + 24 * ticks)
they_cover cells_cover grid ticks least samples intervals some are =
    let sounds = sounds_of grid least samples in
    let cover = cells_cover (path_steps sounds) are.cells are.decided in
    let many = steps_length sounds in
    let e = end_behind 0 are.cells in
    let is = ap sum are.intervals_are ∙ cells_last ticks (ear_of grid least) sounds are.cells [] some cover.0 in
    let within : e ≤ length sounds = omega (arith, cover.1, many) in
    let near : length sounds ≤ e + 24 = omega (arith, cover.2, many) in
    let low = mul-le-mul_left ticks within in
    let high = mul-le-mul_left ticks near in
    (omega (arith, is, low), omega (arith, is, high))

-- ---- how many steps samples have

held_length : (least : ℕ) (samples : List ℤ) → length (with_held least samples) ≡ length samples
unfolding with_held
held_length least [] = refl
held_length least (sample ∷ before) = ap suc (held_length least before)

clipped_length : (samples : List ℤ) → length (clipped samples) ≡ length samples
unfolding clipped
clipped_length [] = refl
clipped_length (sample ∷ before) = ap suc (clipped_length before)

one_more : (many repeats : ℕ) → repeats + many * repeats ≡ suc many * repeats
one_more many repeats = omega (arith, suc-mul many repeats)

repeated_length : (repeats : ℕ) (sounds : List Sounds)
    → length (on_grid (Repeat repeats) sounds) ≡ length sounds * repeats
unfolding on_grid
repeated_length repeats [] = omega arith
repeated_length repeats (latest ∷ before) =
    length-append (replicate repeats latest) (on_grid (Repeat repeats) before)
    ∙ ap₂ (λ a b. a + b) (length-replicate repeats latest) (repeated_length repeats before)
    ∙ one_more (length before) repeats

-- one sound more waits, or is summed with those that wait
pushed_length : (summed : ℕ) (latest : Sounds) (before : List Sounds) (b : Bool)
    → (length (latest ∷ waiting summed before) == summed) ≡ b → length (waiting summed before) < summed
    → length (on_grid (Sum summed) before) * summed + length (waiting summed before) ≡ length before
    → (length (on_grid (Sum summed) (latest ∷ before)) * summed + length (waiting summed (latest ∷ before))
    ≡ length (latest ∷ before)) × (length (waiting summed (latest ∷ before)) < summed)
unfolding waiting on_grid
pushed_length summed latest before true is few so_far =
    let full : length (latest ∷ waiting summed before) ≡ summed = eqb_yes (subst T (sym is) tt) in
    subst (λ b. (length (option_to_list (cond b (Some (mean_of summed (latest ∷ waiting summed before))) None)
    ++ on_grid (Sum summed) before) * summed + length (cond b [] (latest ∷ waiting summed before))
    ≡ length (latest ∷ before)) × (length (cond b [] (latest ∷ waiting summed before)) < summed)) (sym is)
    (omega (arith, full, so_far), omega (arith, few))
pushed_length summed latest before false is few so_far =
    let more : length (latest ∷ waiting summed before) ≢ summed =
    eqb-false (length (latest ∷ waiting summed before)) summed is in
    subst (λ b. (length (option_to_list (cond b (Some (mean_of summed (latest ∷ waiting summed before))) None)
    ++ on_grid (Sum summed) before) * summed + length (cond b [] (latest ∷ waiting summed before))
    ≡ length (latest ∷ before)) × (length (cond b [] (latest ∷ waiting summed before)) < summed)) (sym is)
    (omega (arith, so_far), omega (arith, few, more))

nothing_summed : (summed : ℕ) → 0 < summed
    → (length (on_grid (Sum summed) []) * summed + length (waiting summed []) ≡ 0)
    × (length (waiting summed []) < summed)
unfolding waiting on_grid
nothing_summed summed some = (omega arith, some)

summed_length : (summed : ℕ) (sounds : List Sounds) → 0 < summed
    → (length (on_grid (Sum summed) sounds) * summed + length (waiting summed sounds) ≡ length sounds)
    × (length (waiting summed sounds) < summed)
summed_length summed [] some = nothing_summed summed some
summed_length summed (latest ∷ before) some =
    let so_far = summed_length summed before some in
    pushed_length summed latest before (length (latest ∷ waiting summed before) == summed) refl so_far.1 so_far.0

pub steps_of_samples : (grid : Grid) (least : ℕ) (samples : List ℤ) → IsGrid grid
    → AreStepsOf grid (length samples) (length (sounds_of grid least samples))
steps_of_samples (Repeat repeats) least samples is =
    repeated_length repeats (with_held least (clipped samples))
    ∙ ap (λ n. n * repeats) (held_length least (clipped samples) ∙ clipped_length samples)
steps_of_samples (Sum summed) least samples is =
    let all = summed_length summed (with_held least (clipped samples)) (omega (arith, is.0)) in
    let many = held_length least (clipped samples) ∙ clipped_length samples in
    (omega (arith, all.0, many), omega (arith, all.0, all.1, many))
