use Rattle.cell_path.proofs.Rings.{read_four}
use Rattle.cell_path.proofs.ring.read.Goals as goal

pub returns : goal.returns
returns c = read_four c.args.ring.now c.args.at c.requires.ring c.requires.at
