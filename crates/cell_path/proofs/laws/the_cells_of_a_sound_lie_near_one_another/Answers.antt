use Rattle.cell_path.proofs.CellsNear.{cells_near}
use Rattle.cell_path.proofs.laws.the_cells_of_a_sound_lie_near_one_another.Goals as goal

pub returns-clause-near : goal.returns-clause-near
returns-clause-near c = λ steps all are. (cells_near steps all are).0

pub returns-clause-lengths : goal.returns-clause-lengths
returns-clause-lengths c = λ steps all are. (cells_near steps all are).1
