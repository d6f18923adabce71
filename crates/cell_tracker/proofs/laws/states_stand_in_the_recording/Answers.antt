use Rattle.cell_tracker.proofs.PieceEnds.{at_boundary, inside_one, no_unequal_pair}
use Rattle.cell_tracker.proofs.laws.states_stand_in_the_recording.Goals as goal

pub returns-clause-hunting : goal.returns-clause-hunting
returns-clause-hunting c = no_unequal_pair

pub returns-clause-at_cell : goal.returns-clause-at_cell
returns-clause-at_cell c = at_boundary

pub returns-clause-mid_cell : goal.returns-clause-mid_cell
returns-clause-mid_cell c = inside_one
