use Rattle.cell_path.proofs.CellsCover.{decided_apart}
use Rattle.cell_path.proofs.laws.the_cells_decided_so_far_lie_in_the_sound.Goals as goal

pub returns : goal.returns
returns c = decided_apart
