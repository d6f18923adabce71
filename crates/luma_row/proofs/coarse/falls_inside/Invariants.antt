use Rattle.std.proofs.Common.{◌≤◌, ◌^◌}
use Rattle.luma_row.specs.Coarse.{fall_at}
use Rattle.luma_row.specs.KeptTable.{IsFilled}
use Rattle.luma_row.proofs.coarse.falls_inside.Given as goal

abbrev pub invariant-loop-pixel : goal.invariant-loop-pixel
invariant-loop-pixel l = (l.fn.from ≤ l.pixel) × (l.pixel ≤ l.fn.to)
    × IsFilled (fall_at l.row) 4096 (2 ^ 26) l.pixel l.falls
