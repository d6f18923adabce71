use Rattle.cell_tracker.proofs.MirroredCells.{begin_mirrored}
use Rattle.cell_tracker.proofs.laws.a_mirrored_recording_has_the_mirrored_cells.Goals as goal

pub returns : goal.returns
returns c = begin_mirrored
