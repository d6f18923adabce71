use Rattle.std.proofs.Common.{length}
use Rattle.luma_row.specs.Coarse.{sum_at}
use Rattle.luma_row.specs.Width.{starts}
use Rattle.luma_row.proofs.OneMore.{first_is_greatest}
use Rattle.luma_row.proofs.coarse.best_sum.Goals as goal

pub returns-else-grain-eq16 : goal.returns-else-grain-eq16
returns-else-grain-eq16 c =
    let row = c.args.row.now in
    first_is_greatest (starts (length row) c.args.apart) (sum_at row c.args.apart) c.best_start.result.sum
    c.best_start.result.number c.best_start.ensures
