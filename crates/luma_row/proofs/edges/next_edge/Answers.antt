use Rattle.luma_row.proofs.NextEdge.{light_next, no_edge, none_to, not_falling}
use Rattle.std.proofs.Common.{arith}
use Rattle.luma_row.proofs.edges.next_edge.Goals as goal

pub loop-pixel-preserved : goal.loop-pixel-preserved
loop-pixel-preserved c =
    let row = c.args.row.now in
    let pixel = c.loop-pixel.pixel in
    let light = c.is_light-light.result in
    let before = c.loop-pixel.invariant.0 c.loop-pixel-test.true in
    let isnt = not_falling row pixel c.loop-pixel.was_light light before c.is_light-light.ensures c.else-was_light.either in (
      λ more. light_next row pixel light c.is_light-light.ensures,
      none_to row c.args.from pixel c.loop-pixel.invariant.1 isnt,
    )

pub returns-clause-none : goal.returns-clause-none
returns-clause-none c =
    no_edge c.args.row.now c.args.from c.loop-pixel.pixel c.loop-pixel.invariant.1
    (omega (arith, c.loop-pixel-test.false))
