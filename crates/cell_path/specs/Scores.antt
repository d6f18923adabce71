-- What is kept of a sound stands for its steps so far.
use Rattle.std.specs.Prelude.{◌^◌, ◌≤◌, List, [], ◌∷◌}
use Rattle.cell_path.specs.declared.cell.Step.{Step}
use Rattle.cell_path.specs.Kept.{LacksState, RowsState, SumsState}
use Rattle.cell_path.specs.StandsFor.{LacksStandFor, RowsStandFor, SumsStandFor}
use Rattle.cell_path.specs.Within.{IsWithin}

-- a step of a sound of 16 bits, also with half of its mean size added
pub record IsStep (step : Step) : Type 0 where
  pub sound : IsWithin (2 ^ 16) step.sound
  pub level : step.level ≤ 2 ^ 15

-- steps of such a sound
abbrev pub AreSteps : List Step → Type 0
AreSteps [] = Unit {0}
AreSteps (step ∷ steps) = IsStep step × AreSteps steps

-- the sums of the sound, the rows of scores, and what the best paths lack
pub record ScoresState : Type 0 where
  pub sums : SumsState
  pub rows : RowsState
  pub lacks : LacksState

-- all of them are those of these steps of a sound of 16 bits, the latest first
pub record StandsFor (scores : ScoresState) (steps : List Step) : Type 0 where
  pub are : AreSteps steps
  pub sums : SumsStandFor scores.sums steps
  pub rows : RowsStandFor scores.rows steps
  pub lacks : LacksStandFor scores.lacks steps
