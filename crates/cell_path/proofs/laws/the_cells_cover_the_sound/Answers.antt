use Rattle.cell_path.proofs.CellsCover.{cells_cover}
use Rattle.cell_path.proofs.laws.the_cells_cover_the_sound.Goals as goal

pub returns : goal.returns
returns c = cells_cover
