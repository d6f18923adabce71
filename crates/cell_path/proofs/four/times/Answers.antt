use Rattle.std.proofs.Common.{◌*◌, ◌%◌, ◌^◌, pos}
use Rattle.cell_path.specs.Four.{low}
use Rattle.cell_path.proofs.Lowest.{low-times_natural, zipped}
use Rattle.cell_path.proofs.four.times.Goals as goal

pub returns : goal.returns
returns c = λ step n within x_is.
    zipped (λ m k. (m * c.args.by) % 2 ^ 32) c.args.a c.args.a (low (pos n)) (low (pos n)) (low (pos (c.args.by * n)))
    (low-times_natural n c.args.by c.requires) step within x_is x_is
