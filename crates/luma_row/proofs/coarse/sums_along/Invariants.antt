use Rattle.std.proofs.Common.{◌≤◌}
use Rattle.luma_row.specs.KeptCoarse.{AreSumsAlong}
use Rattle.luma_row.proofs.coarse.sums_along.Given as goal

abbrev pub invariant-loop-pixel : goal.invariant-loop-pixel
invariant-loop-pixel l = (l.pixel ≤ l.count) × AreSumsAlong l.row l.apart l.pixel l.sums
