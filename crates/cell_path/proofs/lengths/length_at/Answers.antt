use Rattle.cell_path.proofs.LengthsOfCells.{length_bounds}
use Rattle.cell_path.proofs.lengths.length_at.Goals as goal

pub returns-clause-least : goal.returns-clause-least
returns-clause-least c = (length_bounds c.args.place c.requires).0

pub returns-clause-most : goal.returns-clause-most
returns-clause-most c = (length_bounds c.args.place c.requires).1
