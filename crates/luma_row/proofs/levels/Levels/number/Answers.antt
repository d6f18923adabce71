use Rattle.std.proofs.Common.{◌+◌, ◌*◌, ap, ap₂, sym, ◌∙◌, arith}
use Rattle.luma_row.proofs.BitByBit.{last_bits_more, last_bits_none, twice_fits, width_fits}
use Rattle.luma_row.proofs.levels.Levels.number.Goals as goal

pub loop-count-init : goal.loop-count-init
loop-count-init c = (omega arith, sym (last_bits_none c.args.self.now), omega arith)

pub overflow_mul-bits : goal.overflow_mul-bits
overflow_mul-bits c =
    let i = c.loop-count.invariant in
    let w = width_fits c.loop-count.count c.loop-count.bits i.0 i.2 in omega (arith, w)

pub overflow_add-bits : goal.overflow_add-bits
overflow_add-bits c =
    let i = c.loop-count.invariant in
    let w = width_fits c.loop-count.count c.loop-count.bits i.0 i.2 in omega (arith, w, c.bit.ensures.most)

pub loop-count-preserved : goal.loop-count-preserved
loop-count-preserved c =
    let i = c.loop-count.invariant in (
      omega (arith, c.loop-count-test.true),
      ap₂ ◌+◌ (ap (λ b. 2 * b) i.1) c.bit.ensures.bit ∙ sym (last_bits_more c.loop-count.count c.args.self.now),
      twice_fits c.loop-count.count c.loop-count.bits c.bit.result c.loop-count-test.true i.2 c.bit.ensures.most,
    )
