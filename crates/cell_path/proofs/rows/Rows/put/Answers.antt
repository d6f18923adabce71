use Rattle.cell_path.specs.declared.cell.Sign.TheVariants.{Plus, Minus}
use Rattle.cell_path.proofs.NextStep.{put_rows}
use Rattle.cell_path.proofs.rows.Rows.put.Goals as goal

pub write-requires-clause-ring : goal.write-requires-clause-ring
write-requires-clause-ring c = c.self.invariant.rings c.args.place Plus c.requires

pub write-requires-2-clause-ring : goal.write-requires-2-clause-ring
write-requires-2-clause-ring c = c.self.invariant.rings c.args.place Minus c.requires

pub invariant_of-self : goal.invariant_of-self
invariant_of-self c =
    put_rows (record { plus = c.self.inside.plus; minus = c.self.inside.minus; next = c.self.inside.next })
    c.args.place c.write.new.ring c.write-2.new.ring c.self.invariant c.write.ensures.ring c.write-2.ensures.ring
