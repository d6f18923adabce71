-- The steps of a sound: for the path, and as they are without the hold. Lists begin with the latest.
use Rattle.std.specs.Prelude.{◌≡◌, ℕ, ◌+◌, ◌<◌, ℤ, unsigned_abs}
use Rattle.std.specs.Prelude.{List, [], ◌∷◌, ◌++◌, map, replicate, Option, Some, None}
use Rattle.cell_path.specs.declared.cell.Step.{Step}
use Rattle.step_grid.specs.declared.grid.Grid.{Grid}
use Rattle.step_grid.specs.declared.grid.Grid.TheVariants.{Repeat, Sum}
use Rattle.path_front.specs.declared.group.Sounds.{Sounds}
use Rattle.path_front.specs.declared.steps.Heard.{Heard}
use Rattle.path_front.specs.Clip.{clipped, sizes_of}
use Rattle.path_front.specs.Grid.{on_grid, GroupState, GroupStandsFor, IsSounds}
use Rattle.step_grid.specs.Grid.{IsGrid}
use Rattle.path_front.specs.Hold.{held_at, HoldState, HoldStandsFor}
use Rattle.path_front.specs.KeptSizes.{SizesState, SizesStandFor}
use Rattle.path_front.specs.Sizes.{mean_size}

-- clipped samples, each with itself held
unfoldable pub with_held : ℕ → List ℤ → List Sounds
with_held least [] = []
with_held least (sample ∷ before) =
    record { clipped = sample; held = held_at least (sample ∷ before) } ∷ with_held least before

-- the steps of samples: clipped, held, and put on the grid
abbrev pub sounds_of : Grid → ℕ → List ℤ → List Sounds
sounds_of grid least samples = on_grid grid (with_held least (clipped samples))

-- the mean size of the steps, without the hold
abbrev pub level_of : List Sounds → ℕ
level_of sounds = mean_size 1 (map (λ (s : Sounds). unsigned_abs s.clipped) sounds)

-- a step with the mean size so far
abbrev pub heard_at : Sounds → List Sounds → Heard
heard_at latest before = record {
  step = record { sound = latest.held; level = level_of (latest ∷ before) };
  sound = latest.clipped;
}

-- each of the steps, for the path
unfoldable pub path_steps : List Sounds → List Step
path_steps [] = []
path_steps (latest ∷ before) = (heard_at latest before).step ∷ path_steps before

-- the grid, the clip, the hold, the samples that wait, the steps left of the latest sound, that sound, and the sizes
pub record StepsState : Type 0 where
  pub grid : Grid
  pub clip : SizesState
  pub hold : HoldState
  pub group : GroupState
  pub left : ℕ
  pub latest : Sounds
  pub levels : SizesState

-- fewer samples wait than are summed in a step
abbrev pub HasRoom : Grid → GroupState → Type 0
HasRoom (Repeat repeats) group = Unit {0}
HasRoom (Sum summed) group = group.many < summed

-- the grid is one that there is, fewer samples wait than it sums, and the latest sound is in range
pub record AreSteps (state : StepsState) : Type 0 where
  pub grid : IsGrid state.grid
  pub room : HasRoom state.grid state.group
  pub latest : IsSounds state.latest

-- the sums of a grid that has some
abbrev pub GroupStands : Grid → GroupState → List Sounds → Type 0
GroupStands (Repeat repeats) group sounds = Unit {0}
GroupStands (Sum summed) group sounds = GroupStandsFor summed group sounds

-- of the steps of these samples all but the latest, of which some are left, have been given
pub record StepsStandFor (state : StepsState) (samples : List ℤ) (given : List Sounds) : Type 0 where
  pub clip : SizesStandFor state.clip (sizes_of samples)
  pub hold : HoldStandsFor state.hold (clipped samples)
  pub group : GroupStands state.grid state.group (with_held state.hold.least (clipped samples))
  pub all : replicate state.left state.latest ++ given ≡ sounds_of state.grid state.hold.least samples
  pub levels : SizesStandFor state.levels (map (λ (s : Sounds). unsigned_abs s.clipped) given)

-- the next step is given, or all have been
abbrev pub GivesStep : StepsState → List ℤ → List Sounds → Option Heard → Type 0
GivesStep new samples given None = StepsStandFor new samples given × (given ≡ sounds_of new.grid new.hold.least samples)
GivesStep new samples given (Some heard) =
    (latest : Sounds) × (heard ≡ heard_at latest given) × StepsStandFor new samples (latest ∷ given)

-- one step fewer is left
pub record TakesStep (old new : StepsState) : Type 0 where
  pub left : old.left ≡ new.left + 1
  pub count : new.levels.count ≡ old.levels.count + 1
