use Rattle.std.proofs.Common.{arith}
use Rattle.luma_row.proofs.OnePlace.{one_coarse}
use Rattle.luma_row.proofs.row.RowReader.sought.Goals as goal

pub returns-then-coarse-clause-none : goal.returns-then-coarse-clause-none
returns-then-coarse-clause-none c = λ place is.
    let same = one_coarse c.args.row.now c.best_coarse-coarse.result.sum is.sum c.best_coarse-coarse.result.place
    is.coarse c.best_coarse-coarse.ensures.coarse is.is_coarse in
    let more = is.falls in
    omega (arith, same.0, more, c.if-coarse.true)
