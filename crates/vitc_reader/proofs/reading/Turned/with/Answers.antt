use Rattle.std.proofs.Common.{refl}
use Rattle.vitc_reader.proofs.TurnedSoFar.{turned_bits}
use Rattle.vitc_reader.proofs.reading.Turned.with.Goals as goal

pub returns-clause-next : goal.returns-clause-next
returns-clause-next c = (
  c.in-Some.more,
  c.in-Some.ensures.some,
  refl,
  c.if-cells-gt-CELLS.false,
  turned_bits c.args.self.bits c.args.self.cells c.in-Some.more c.ones.result c.requires.bits c.ones.ensures,
)
