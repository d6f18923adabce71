use Rattle.std.proofs.Common.{arith}
use Rattle.path_front.proofs.EighthBefore.{bends_is}
use Rattle.path_front.proofs.bend.bends.Goals as goal

pub returns : goal.returns
returns c =
    let a = c.args in
    bends_is a.grain a.before.now a.cell.now _ a.behind.now c.bends_from.result (grind arith) (grind arith) c.bends_from.ensures
