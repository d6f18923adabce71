use Rattle.std.proofs.Common.{◌∙◌}
use Rattle.biphase.proofs.ShapedIsAChain.{shaped_cons}
use Rattle.biphase.proofs.shaper.Shaper.next_cell.Goals as goal

-- the first cell of the shape, and the shape that goes on behind it
pub returns-clause-cells : goal.returns-clause-cells
returns-clause-cells c = λ bits. shaped_cons c.args.self.now c.args.bit bits ∙ cc
