use Rattle.path_front.proofs.SaidIntervals.{tiles_said}
use Rattle.path_front.proofs.laws.each_interval_of_a_cell_can_be_said.Goals as goal

pub returns : goal.returns
returns c = tiles_said
