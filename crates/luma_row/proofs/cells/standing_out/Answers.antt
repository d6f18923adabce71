use Rattle.std.proofs.Common.{◌≡◌, ◌+◌, ap₂, sym, subst, arith, ◌∙◌}
use Rattle.luma_row.specs.Cells.{standing_out, stands_out}
use Rattle.luma_row.specs.Choice.{sum_of}
use Rattle.luma_row.proofs.FallByFall.{sum_of_more, sum_of_none}
use Rattle.luma_row.proofs.cells.standing_out.Goals as goal

pub loop-pair-init : goal.loop-pair-init
loop-pair-init c = (omega arith, sym (sum_of_none (stands_out c.args.cells.now)), omega arith)

pub loop-pair-preserved : goal.loop-pair-preserved
loop-pair-preserved c =
    let i = c.loop-pair.invariant in
    let more = sum_of_more c.loop-pair.pair (stands_out c.args.cells.now) in (
      omega (arith, c.loop-pair-test.true),
      ap₂ ◌+◌ i.1 c.stands_out-count.ensures.stands ∙ sym more,
      omega (arith, i.2, c.stands_out-count.ensures.most),
    )

pub returns : goal.returns
unfolding standing_out
returns c =
    let i = c.loop-pair.invariant in
    let all : c.loop-pair.pair ≡ 9 = omega (arith, i.0, c.loop-pair-test.false) in
    subst (λ n. c.loop-pair.count ≡ sum_of n (stands_out c.args.cells.now)) all i.1
