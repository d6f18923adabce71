-- Steps that wait until there are four.
use Rattle.std.specs.Prelude.{◌≡◌, ℕ, zero, suc, ◌%◌, pos, List, [], ◌∷◌, ◌++◌}
use Rattle.cell_path.specs.declared.cell.Step.{Step}
use Rattle.cell_path.specs.declared.pending.Pending.{Pending}
use Rattle.cell_path.specs.Paths.{PathsState, PathsStandFor}
use Rattle.cell_path.specs.Scores.{AreSteps}

-- a step of silence
abbrev pub no_step : Step
no_step = record { sound = pos 0; level = 0 }

-- as many steps as wait, the latest first
abbrev pub steps_of : Pending → ℕ → List Step
steps_of pending zero = []
steps_of pending (suc zero) = pending.first ∷ []
steps_of pending (suc (suc zero)) = pending.second ∷ pending.first ∷ []
steps_of pending (suc (suc (suc n))) = pending.third ∷ pending.second ∷ pending.first ∷ []

-- the paths stand for the steps behind those that wait, and those that wait are the latest
pub record StandsWith (state : PathsState) (pending : Pending) (count : ℕ) (steps : List Step) : Type 0 where
  pub before : List Step
  pub paths : PathsStandFor state before
  pub steps_are : steps ≡ steps_of pending (count % 4) ++ before
  pub waits : AreSteps (steps_of pending 3)
