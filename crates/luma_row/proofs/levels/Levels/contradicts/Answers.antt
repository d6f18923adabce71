use Rattle.std.proofs.Common.{ap₂, sym, ◌||◌, ◌∙◌, arith}
use Rattle.luma_row.specs.Levels.{is_opposite}
use Rattle.luma_row.proofs.BitByBit.{any_of_more, any_of_none}
use Rattle.luma_row.proofs.levels.Levels.contradicts.Goals as goal

pub loop-bit-init : goal.loop-bit-init
loop-bit-init c = (omega arith, sym (any_of_none (is_opposite c.args.self.now c.args.other.now)))

pub loop-bit-preserved : goal.loop-bit-preserved
loop-bit-preserved c = (
  omega (arith, c.loop-bit-test.true),
  ap₂ ◌||◌ c.loop-bit.invariant.1 c.is_opposite-found.ensures
      ∙ sym (any_of_more c.loop-bit.bit (is_opposite c.args.self.now c.args.other.now)),
)
