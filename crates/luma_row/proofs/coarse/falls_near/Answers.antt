use Rattle.std.proofs.Common.{◌^◌, arith}
use Rattle.luma_row.specs.Coarse.{fall_at}
use Rattle.luma_row.proofs.Filled.{filled_to, one_filled}
use Rattle.luma_row.proofs.coarse.falls_near.Goals as goal

pub loop-pixel-init : goal.loop-pixel-init
loop-pixel-init c = (omega arith, c.requires.order, c.requires.falls)

pub loop-pixel-preserved : goal.loop-pixel-preserved
loop-pixel-preserved c =
    let i = c.loop-pixel.invariant in (
      omega (arith, i.0),
      omega (arith, c.loop-pixel-test.true),
      one_filled (fall_at c.args.row.now) 4096 (2 ^ 26) c.loop-pixel.pixel c.fall_at.result c.loop-pixel.falls i.2
          (omega (arith, c.loop-pixel-test.true, c.requires.within, c.requires.row.1))
          c.fall_at.ensures.value c.fall_at.ensures.most,
    )

pub returns : goal.returns
returns c =
    let i = c.loop-pixel.invariant in
    filled_to (fall_at c.args.row.now) 4096 (2 ^ 26) c.loop-pixel.pixel c.args.to c.loop-pixel.falls
    (omega (arith, i.1, c.loop-pixel-test.false)) i.2
