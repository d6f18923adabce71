-- How the samples of a sound become steps, where the best path of its cells is looked for. The rule is this project's
-- own.
use Rattle.std.specs.Prelude.{ℕ, ◌*◌, ◌/◌, ◌%◌, ◌==◌, nat_le, Bool, ◌&&◌, List, [], ◌∷◌, Option, Some, None}
use Rattle.std.specs.Prelude.{if◌then◌else◌}
use Rattle.step_grid.specs.declared.grid.Grid.{Grid}
use Rattle.step_grid.specs.declared.grid.Grid.TheVariants.{Repeat, Sum}
use Rattle.step_grid.specs.declared.grid.TheConstants.{MAX_TICKS}
use Rattle.tc_address.specs.declared.system.System.{System}
use Rattle.tc_address.specs.Count.{rate_of}

-- how many steps a cell at play speed has, rounded down, in sound of this many samples a second: a frame has 80 cells
abbrev pub steps_of_cell : System → ℕ → Grid → ℕ
steps_of_cell system rate (Repeat repeats) = rate * repeats / (80 * rate_of system)
steps_of_cell system rate (Sum summed) = rate / (80 * rate_of system * summed)

-- from 14 to 27
abbrev pub is_fit : System → ℕ → Grid → Bool
is_fit system rate grid = nat_le 14 (steps_of_cell system rate grid) && nat_le (steps_of_cell system rate grid) 27

-- the grids that are tried: eight to one steps for a sample, two to 4,096 samples for a step, by powers of two
abbrev pub grids : List Grid
grids =
    Repeat 8 ∷ Repeat 4 ∷ Repeat 2 ∷ Repeat 1 ∷ Sum 2 ∷ Sum 4 ∷ Sum 8 ∷ Sum 16 ∷ Sum 32 ∷ Sum 64 ∷ Sum 128 ∷ Sum 256
    ∷ Sum 512 ∷ Sum 1_024 ∷ Sum 2_048 ∷ Sum 4_096 ∷ []

-- the first of them that is fit. Of each a cell has half the steps of the one before, rounded down, so no other one is
unfoldable pub first_fit : System → ℕ → List Grid → Option Grid
first_fit system rate [] = None
first_fit system rate (grid ∷ more) = if is_fit system rate grid then Some grid else first_fit system rate more

-- the grid for a sound of this many samples a second, if one of these is fit
abbrev pub grid_for : System → ℕ → Option Grid
grid_for system rate = first_fit system rate grids

-- a step has a whole number of ticks, two at least and not too many, if a sample has `fineness`
abbrev pub step_ticks : ℕ → Grid → Option ℕ
step_ticks fineness (Repeat repeats) =
    if (fineness % repeats == 0) && nat_le 2 (fineness / repeats) then Some (fineness / repeats) else None
step_ticks fineness (Sum summed) = if nat_le (fineness * summed) MAX_TICKS then Some (fineness * summed) else None
