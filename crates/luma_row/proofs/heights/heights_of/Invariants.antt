use Rattle.std.proofs.Common.{◌^◌}
use Rattle.luma_row.specs.Heights.{height}
use Rattle.luma_row.specs.KeptHeights.{AreHeightsTo}
use Rattle.luma_row.proofs.heights.heights_of.Given as goal

abbrev pub invariant-loop-bit : goal.invariant-loop-bit
invariant-loop-bit l = AreHeightsTo (height l.cells) (2 ^ 35) l.bit l.heights
