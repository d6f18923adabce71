use Rattle.std.proofs.Common.{arith}
use Rattle.cell_path.proofs.SpacedEnds.{spaced_many}
use Rattle.cell_path.proofs.follow.decide.Goals as goal

pub returns-clause-many : goal.returns-clause-many
returns-clause-many c =
    let e = c.decided_now.ensures in
    let many = spaced_many 120 c.args.done.now c.decided_now.result e.spaced in
    omega (arith, many, e.behind, c.requires.near)
