-- What is kept of a sound to follow its best paths stands for its steps so far.
use Rattle.std.specs.Prelude.{List}
use Rattle.cell_path.specs.declared.cell.Step.{Step}
use Rattle.cell_path.specs.KeptMarks.{MarksState, MarksStandFor}
use Rattle.cell_path.specs.Scores.{ScoresState, StandsFor}

-- the scores, and the marks by which paths are followed back
pub record PathsState : Type 0 where
  pub scores : ScoresState
  pub marks : MarksState

-- the scores are those of these steps, the latest first, and the marks those of the latest of them
pub record PathsStandFor (paths : PathsState) (steps : List Step) : Type 0 where
  pub scores : StandsFor paths.scores steps
  pub marks : MarksStandFor paths.marks steps
