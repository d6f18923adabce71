use Rattle.std.proofs.Common.{◌*◌, ◌^◌, arith}
use Rattle.luma_row.specs.KeptCoarse.{sum_from}
use Rattle.luma_row.proofs.Filled.{filled_to, nothing_filled, one_filled}
use Rattle.luma_row.proofs.coarse.sums_along.Goals as goal

pub loop-pixel-init : goal.loop-pixel-init
loop-pixel-init c = (
  omega arith,
  nothing_filled (sum_from c.args.row.now c.args.apart) 4096 (9 * 2 ^ 26) c.args.sums.now c.told-sums,
)

pub loop-pixel-preserved : goal.loop-pixel-preserved
loop-pixel-preserved c = (
  omega (arith, c.loop-pixel-test.true),
  one_filled (sum_from c.args.row.now c.args.apart) 4096 (9 * 2 ^ 26) c.loop-pixel.pixel c.sum_of_falls.result
      c.loop-pixel.sums c.loop-pixel.invariant.1
      (omega (arith, c.loop-pixel-test.true, c.requires.within, c.requires.row.1)) c.sum_of_falls.ensures.value
      c.sum_of_falls.ensures.most,
)

pub returns : goal.returns
returns c =
    filled_to (sum_from c.args.row.now c.args.apart) 4096 (9 * 2 ^ 26) c.loop-pixel.pixel c.args.count
    c.loop-pixel.sums (omega (arith, c.loop-pixel.invariant.0, c.loop-pixel-test.false)) c.loop-pixel.invariant.1
