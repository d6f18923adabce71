use Rattle.std.proofs.Common.{ap₂, sym, ◌&&◌, ◌∙◌, arith}
use Rattle.luma_row.specs.Levels.{is_clear}
use Rattle.luma_row.proofs.BitByBit.{all_of_more, all_of_none}
use Rattle.luma_row.proofs.levels.Levels.are_clear.Goals as goal

pub loop-bit-init : goal.loop-bit-init
loop-bit-init c = (omega arith, sym (all_of_none (is_clear c.args.self.now)))

pub loop-bit-preserved : goal.loop-bit-preserved
loop-bit-preserved c = (
  omega (arith, c.loop-bit-test.true),
  ap₂ ◌&&◌ c.loop-bit.invariant.1 c.is_clear-clear.ensures
      ∙ sym (all_of_more c.loop-bit.bit (is_clear c.args.self.now)),
)
