-- Which cells are code, and which are noise. Lists of cells that were judged begin with the latest, and those ahead
-- with the earliest. The rule is this project's own.
use Rattle.std.specs.Prelude.{◌≡◌, ℕ, ◌^◌, ◌≤◌, Bool, false, ◌||◌, List, [], ◌∷◌, ◌++◌, length, take}
use Rattle.std.specs.List.{All}
use Rattle.step_grid.specs.declared.grid.Grid.{Grid}
use Rattle.step_grid.specs.declared.grid.Grid.TheVariants.{Repeat, Sum}
use Rattle.path_front.specs.declared.gate.Ear.{Ear}
use Rattle.path_front.specs.declared.gate.Judged.{Judged}
use Rattle.path_front.specs.declared.gate.TheConstants.{NEIGHBOURS}
use Rattle.path_front.specs.declared.measured.Measured.{Measured}
use Rattle.path_front.specs.Bend.{bends}
use Rattle.path_front.specs.Fit.{is_misfit, usual}
use Rattle.path_front.specs.Levels.{is_faint, range_by}
use Rattle.path_front.specs.Measured.{IsMeasured}

-- a sample is some steps, or some samples are one
abbrev pub grain_of : Grid → ℕ
grain_of (Repeat repeats) = repeats
grain_of (Sum summed) = 1

-- on a grid, with a least threshold
abbrev pub ear_of : Grid → ℕ → Ear
ear_of grid least = record { least = least; grain = grain_of grid }

-- between these neighbours a cell behind others is too faint, by the lesser of their mean levels, or a half of it does
-- not fit, by the greater, or it is the middle of a bend
abbrev pub refuses_between : Ear → List Measured → Measured → List Measured → Bool
refuses_between ear [] cell behind = false
refuses_between ear (previous ∷ before) cell behind =
    let range = range_by (previous ∷ before) behind in
    is_faint ear.least range.least previous cell
    || is_misfit range.most (usual range.most (previous ∷ before) behind) cell
    || bends ear.grain (previous ∷ before) cell behind

-- by the eight cells on either side, or by as many as there are
abbrev pub refuses : Ear → List Measured → Measured → List Measured → Bool
refuses ear before cell behind = refuses_between ear (take NEIGHBOURS before) cell (take NEIGHBOURS behind)

-- the stretch breaks in front of a cell
abbrev pub breaks : Ear → List Measured → Measured → List Measured → Bool
breaks ear before cell behind = cell.jumps || refuses ear before cell behind

-- what is heard at least, and the cells before and ahead
pub record GateState : Type 0 where
  pub ear : Ear
  pub before : List Measured
  pub ahead : List Measured

-- a threshold of 16 bits, and one step or more
pub record IsEar (ear : Ear) : Type 0 where
  pub least : ear.least ≤ 2 ^ 15
  pub grain : 1 ≤ ear.grain

-- how many cells a gate keeps at most, and how great its numbers are
pub record AreGated (state : GateState) : Type 0 where
  pub ear : IsEar state.ear
  pub before : All IsMeasured state.before
  pub ahead : All IsMeasured state.ahead
  pub few_before : length state.before ≤ 8
  pub few_ahead : length state.ahead ≤ 9

-- these cells were judged
abbrev pub GateStandsFor : GateState → List Measured → Type 0
GateStandsFor state judged = state.before ≡ take NEIGHBOURS judged

-- of the cells ahead the next one is judged, with these behind them
pub record Judges (ear : Ear) (ahead : List Measured) (new : GateState) (judged more : List Measured) (result : Judged)
    : Type 0 where
  pub front : ahead ≡ result.cell ∷ new.ahead
  pub breaks_is : result.breaks ≡ breaks ear judged result.cell (new.ahead ++ more)
  pub stands : GateStandsFor new (result.cell ∷ judged)
