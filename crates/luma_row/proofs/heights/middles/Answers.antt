use Rattle.std.proofs.Common.{◌^◌, refl, replicate, arith}
use Rattle.luma_row.specs.Heights.{smoothed}
use Rattle.luma_row.proofs.Filled.{filled_to, nothing_filled, one_filled}
use Rattle.luma_row.proofs.heights.middles.Goals as goal

pub loop-pair-init : goal.loop-pair-init
loop-pair-init c = nothing_filled (smoothed c.args.cells.now) 9 (2 ^ 27) (replicate 9 0) refl

pub loop-pair-preserved : goal.loop-pair-preserved
loop-pair-preserved c =
    one_filled (smoothed c.args.cells.now) 9 (2 ^ 27) c.loop-pair.pair c.smoothed.result c.loop-pair.middles
    c.loop-pair.invariant c.loop-pair-test.true c.smoothed.ensures.smoothed c.smoothed.ensures.most

pub returns : goal.returns
returns c =
    filled_to (smoothed c.args.cells.now) 9 (2 ^ 27) c.loop-pair.pair 9 c.loop-pair.middles (omega arith)
    c.loop-pair.invariant
