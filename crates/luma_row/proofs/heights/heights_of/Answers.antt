use Rattle.std.proofs.Common.{rules, FitsSigned, to_z-of_z, ◌≡◌, ◌^◌, pos, refl, replicate, arith}
use Rattle.std.specs.Int.{w64}
use Rattle.luma_row.specs.Heights.{height}
use Rattle.luma_row.specs.KeptHeights.{AreHeightsTo}
use Rattle.luma_row.proofs.HeightByHeight.{all_heights, heights_to, no_heights, one_height}
use Rattle.luma_row.proofs.heights.heights_of.Goals as goal

pub loop-bit-init : goal.loop-bit-init
loop-bit-init c = no_heights (height c.args.cells.now) (2 ^ 35) (replicate 90 (pos 0)) refl

pub loop-bit-preserved : goal.loop-bit-preserved
loop-bit-preserved c =
    let fits : FitsSigned w64 c.height.result = search rules in
    rw (to_z-of_z fits)
    (one_height (height c.args.cells.now) (2 ^ 35) c.loop-bit.bit c.height.result c.loop-bit.heights
    c.loop-bit.invariant c.loop-bit-test.true c.height.ensures.height c.height.ensures.size)

filled : (c : goal.After-loop-bit) → AreHeightsTo (height c.args.cells.now) (2 ^ 35) 90 c.loop-bit.heights
filled c =
    let all : c.loop-bit.bit ≡ 90 = omega (arith, c.loop-bit-test.false, c.loop-bit.auto.bit-end) in
    heights_to (height c.args.cells.now) (2 ^ 35) c.loop-bit.bit 90 c.loop-bit.heights all c.loop-bit.invariant

pub returns-clause-heights : goal.returns-clause-heights
returns-clause-heights c = all_heights (height c.args.cells.now) (2 ^ 35) c.loop-bit.heights (filled c)

pub returns-clause-size : goal.returns-clause-size
returns-clause-size c = (filled c).within
