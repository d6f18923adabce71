-- The cells of a sound last from two to 120 steps each, so each interval of a sound can be said.
use Rattle.std.proofs.Common.{ℕ, ◌≤◌, ℤ, List, [], ◌∷◌, subst, sym, arith}
use Rattle.std.specs.List.{flat_map, All, AllByRecursion}
use Rattle.std.proofs.lemmas.List.Elements.{All-append, All-nil}
use Rattle.cell_path.specs.declared.cell.Step.{Step}
use Rattle.cell_path.specs.declared.placed.Placed.{Placed}
use Rattle.cell_path.specs.Decided.{AreDecidedInAll}
use Rattle.cell_path.specs.Spaced.{AreApart, AreNear, IsInList}
use Rattle.path_front.specs.declared.gate.Ear.{Ear}
use Rattle.path_front.specs.declared.gate.Judged.{Judged}
use Rattle.path_front.specs.declared.group.Sounds.{Sounds}
use Rattle.path_front.specs.declared.measured.Measured.{Measured}
use Rattle.step_grid.specs.declared.grid.Grid.{Grid}
use Rattle.path_front.specs.Cells.{cell_behind, measured_cells}
use Rattle.path_front.specs.Front.{intervals_before, judgements, AreIntervals}
use Rattle.path_front.specs.Gate.{breaks, ear_of}
use Rattle.path_front.specs.Steps.{path_steps, sounds_of}
use Rattle.path_front.specs.Tiles.{tiles_of, IsSaid}
use Rattle.path_front.proofs.FrontNext.{flat_pushed}
use Rattle.path_front.proofs.IntervalsCover.{TheyCover}
use Rattle.path_front.proofs.SaidIntervals.{span_said}

-- what the crate of the path says of the cells that are decided in all
abbrev pub TheyAreNear : Type 0
TheyAreNear = (steps : List Step) (all : List Placed) → AreDecidedInAll steps all → AreNear all

abbrev pub TheyAreInList : Type 0
TheyAreInList = (steps : List Step) (all : List Placed) → AreDecidedInAll steps all → AllByRecursion IsInList all

cells_said : (ticks : ℕ) (ear : Ear) (sounds : List Sounds) (cells : List Placed) (behind : List Measured) → 2 ≤ ticks
    → ticks ≤ 65_536 → AreApart cells → AreNear cells → AllByRecursion IsInList cells
    → All IsSaid (intervals_before ticks ear (measured_cells sounds cells) behind)
unfolding measured_cells judgements
cells_said ticks ear sounds [] behind some most apart near lengths = All-nil IsSaid
cells_said ticks ear sounds (placed ∷ before) behind some most apart near lengths =
    let cell = cell_behind sounds placed before in
    let others = measured_cells sounds before in
    let judged : Judged = record { cell = cell; breaks = breaks ear others cell behind } in
    let so_far = judgements ear others (cell ∷ behind) in
    subst (All IsSaid) (sym (flat_pushed ticks so_far judged))
    (All-append IsSaid (flat_map (tiles_of ticks) so_far) (tiles_of ticks judged)
    (cells_said ticks ear sounds before (cell ∷ behind) some most apart.1 near.1 lengths.1)
    (span_said ticks judged some most (omega (arith, apart.0)) (omega (arith, near.0)) lengths.0.1))

pub sound_said : TheyCover → TheyAreNear → TheyAreInList → (grid : Grid) (ticks least : ℕ) (samples : List ℤ)
    (intervals : List ℕ) → 2 ≤ ticks → ticks ≤ 65_536 → AreIntervals grid ticks least samples intervals
    → All IsSaid intervals
sound_said cover are_near in_list grid ticks least samples intervals some most are =
    let sounds = sounds_of grid least samples in
    let steps = path_steps sounds in
    let apart = cover steps are.cells are.decided in
    subst (All IsSaid) (sym are.intervals_are)
    (cells_said ticks (ear_of grid least) sounds are.cells [] some most apart.0 (are_near steps are.cells are.decided)
    (in_list steps are.cells are.decided))
