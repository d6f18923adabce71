use Rattle.std.proofs.Common.{◌+◌, ◌-◌, ◌%◌, ◌^◌, ◌-ℤ◌}
use Rattle.cell_path.specs.Four.{low}
use Rattle.cell_path.proofs.Lowest.{low-minus, zipped}
use Rattle.cell_path.proofs.four.minus.Goals as goal

pub returns : goal.returns
returns c = λ step x y within x_is y_is.
    zipped (λ m n. (m + (2 ^ 32 - n)) % 2 ^ 32) c.args.a c.args.b (low x) (low y) (low (x -ℤ y)) (low-minus x y) step
    within x_is y_is
