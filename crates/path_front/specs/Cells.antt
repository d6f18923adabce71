-- The cells of a sound, from its samples. Lists begin with the latest.
use Rattle.std.specs.Prelude.{◌≡◌, ℕ, ◌+◌, ◌*◌, ◌^◌, ◌≤◌, ℤ, List, [], ◌∷◌, length, map, Option, Some, None}
use Rattle.cell_path.specs.declared.placed.Placed.{Placed}
use Rattle.cell_path.specs.Decided.{end_behind, jumps, latest_of, AreDecidedInAll}
use Rattle.cell_path.specs.Decisions.{last_end, DecisionsState, DecisionsEndFor, DecisionsStandFor}
use Rattle.path_front.specs.declared.group.Sounds.{Sounds}
use Rattle.path_front.specs.declared.measured.Measured.{Measured}
use Rattle.path_front.specs.Latest.{LatestState, LatestStandFor}
use Rattle.path_front.specs.Measured.{measured_of}
use Rattle.path_front.specs.Steps.{path_steps, sounds_of, StepsState, StepsStandFor}

-- the sound of steps, without the hold
abbrev pub plain : List Sounds → List ℤ
plain sounds = map (λ (s : Sounds). s.clipped) sounds

-- a decided cell behind others, measured in the sound
abbrev pub cell_behind : List Sounds → Placed → List Placed → Measured
cell_behind sounds placed before =
    measured_of (record {
      placed = placed;
      jumps =
          jumps (latest_of before) placed;
    }) (end_behind 0 before) (plain sounds)

-- all of them
unfoldable pub measured_cells : List Sounds → List Placed → List Measured
measured_cells sounds [] = []
measured_cells sounds (placed ∷ before) = cell_behind sounds placed before ∷ measured_cells sounds before

-- none ends behind the sound
abbrev pub EndWithin : ℕ → List Placed → Type 0
EndWithin count [] = Unit {0}
EndWithin count (placed ∷ before) = (placed.end ≤ count) × EndWithin count before

-- the steps, the sound of the latest ones, the decisions, and where the last cell given ended
pub record CellsState : Type 0 where
  pub steps : StepsState
  pub latest : LatestState
  pub decisions : DecisionsState
  pub ended : ℕ

-- the steps of samples, at most eight of each
pub record AreCells (state : CellsState) : Type 0 where
  pub latest : state.latest.count ≡ state.decisions.count
  pub levels : state.steps.levels.count ≡ state.decisions.count
  pub ended : state.ended ≡ last_end state.decisions.last
  pub room : state.decisions.count + state.steps.left ≤ 8 * state.steps.clip.count
  pub few : state.steps.clip.count ≤ 2 ^ 37

-- the steps of these samples so far
abbrev pub sounds_in : CellsState → List ℤ → List Sounds
sounds_in state samples = sounds_of state.steps.grid state.steps.hold.least samples

-- of the cells that are decided by these samples these have been given
pub record CellsStandFor (state : CellsState) (samples : List ℤ) (given : List Placed) : Type 0 where
  pub sounds : List Sounds
  pub steps : StepsStandFor state.steps samples sounds
  pub latest : LatestStandFor state.latest (plain sounds)
  pub decisions : DecisionsStandFor state.decisions (path_steps sounds) given
  pub within : EndWithin (length sounds) given

-- the sound has ended
pub record CellsEndFor (state : CellsState) (samples : List ℤ) (given : List Placed) : Type 0 where
  pub left : state.steps.left ≡ 0
  pub latest : LatestStandFor state.latest (plain (sounds_in state samples))
  pub decisions : DecisionsEndFor state.decisions (path_steps (sounds_in state samples)) given

-- the next cell is given, or all that are decided so far have been
abbrev pub GivesCell : CellsState → List ℤ → List Placed → Option Measured → Type 0
GivesCell new samples given None = CellsStandFor new samples given
GivesCell new samples given (Some cell) =
    (placed : Placed) × (cell ≡ cell_behind (sounds_in new samples) placed given)
    × CellsStandFor new samples (placed ∷ given)

-- the same at the end: then they are all cells of the sound
abbrev pub GivesLastCell : CellsState → List ℤ → List Placed → Option Measured → Type 0
GivesLastCell new samples given None =
    CellsEndFor new samples given × AreDecidedInAll (path_steps (sounds_in new samples)) given
GivesLastCell new samples given (Some cell) =
    (placed : Placed) × (cell ≡ cell_behind (sounds_in new samples) placed given)
    × CellsEndFor new samples (placed ∷ given)

-- the samples and their choices are the same
pub record SameSound (old new : CellsState) : Type 0 where
  pub grid : new.steps.grid ≡ old.steps.grid
  pub least : new.steps.hold.least ≡ old.steps.hold.least
  pub count : new.steps.clip.count ≡ old.steps.clip.count

-- a bound of the cells that are left: a step decides 1,024 at most
abbrev pub cells_left : CellsState → ℕ
cells_left state = 2_100 * state.steps.left + 2 * length state.decisions.waiting

-- all that the samples bring has been given
pub record IsIdle (state : CellsState) : Type 0 where
  pub left : state.steps.left ≡ 0
  pub waiting : state.decisions.waiting ≡ []
