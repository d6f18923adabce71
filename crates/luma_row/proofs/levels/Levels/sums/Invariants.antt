use Rattle.std.proofs.Common.{◌^◌}
use Rattle.luma_row.specs.Levels.{sum_at}
use Rattle.luma_row.specs.KeptHeights.{AreHeightsTo}
use Rattle.luma_row.proofs.levels.Levels.sums.Given as goal

abbrev pub invariant-loop-bit : goal.invariant-loop-bit
invariant-loop-bit l = AreHeightsTo (sum_at l.self l.other) (2 ^ 36) l.bit l.heights
