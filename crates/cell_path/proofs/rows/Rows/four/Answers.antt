use Rattle.cell_path.specs.declared.cell.Sign.TheVariants.{Plus, Minus}
use Rattle.cell_path.proofs.rows.Rows.four.Goals as goal

pub read-requires-clause-ring : goal.read-requires-clause-ring
read-requires-clause-ring c = c.self.invariant.rings c.args.place Plus c.requires.place

pub read-requires-in-Minus-clause-ring : goal.read-requires-in-Minus-clause-ring
read-requires-in-Minus-clause-ring c = c.self.invariant.rings c.args.place Minus c.requires.place
