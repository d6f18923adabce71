use Rattle.std.proofs.Common.{◌≡◌, ◌^◌, arith}
use Rattle.luma_row.specs.Levels.{sum_at}
use Rattle.luma_row.proofs.HeightByHeight.{all_heights, heights_to}
use Rattle.luma_row.proofs.levels.Levels.sums.Goals as goal

pub returns-clause-sums : goal.returns-clause-sums
returns-clause-sums c =
    let sums = sum_at c.args.self.now c.args.other.now in
    let all : c.loop-bit.bit ≡ 90 = omega (arith, c.loop-bit-test.false, c.loop-bit.auto.bit-end) in
    all_heights sums (2 ^ 36) c.loop-bit.heights
    (heights_to sums (2 ^ 36) c.loop-bit.bit 90 c.loop-bit.heights all c.loop-bit.invariant)
