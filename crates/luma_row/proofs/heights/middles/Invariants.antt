use Rattle.std.proofs.Common.{◌^◌}
use Rattle.luma_row.specs.Heights.{smoothed}
use Rattle.luma_row.specs.KeptTable.{IsFilled}
use Rattle.luma_row.proofs.heights.middles.Given as goal

abbrev pub invariant-loop-pair : goal.invariant-loop-pair
invariant-loop-pair l = IsFilled (smoothed l.cells) 9 (2 ^ 27) l.pair l.middles
