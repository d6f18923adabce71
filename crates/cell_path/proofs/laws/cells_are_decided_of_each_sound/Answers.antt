use Rattle.cell_path.proofs.BestExists.{best_exists}
use Rattle.cell_path.proofs.UnfinishedExists.{some_decided, some_in_all}
use Rattle.cell_path.proofs.laws.cells_are_decided_of_each_sound.Goals as goal

pub returns-clause-best : goal.returns-clause-best
returns-clause-best c = best_exists

pub returns-clause-decided : goal.returns-clause-decided
returns-clause-decided c = some_decided

pub returns-clause-in_all : goal.returns-clause-in_all
returns-clause-in_all c = some_in_all
