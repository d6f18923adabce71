use Rattle.std.proofs.Common.{arith}
use Rattle.cell_path.proofs.OneMoreLength.{one_more_end}
use Rattle.cell_path.proofs.ends.best_ends.Goals as goal

pub loop-place-init : goal.loop-place-init
loop-place-init c = λ place sign none. absurd (omega arith)

pub loop-place-preserved : goal.loop-place-preserved
loop-place-preserved c =
    let p = c.put.ensures in
    let a = c.best_end-plus.ensures in
    let b = c.best_end-minus.ensures in
    one_more_end c.args.sums.now c.args.rows.now c.loop-place.place c.loop-place.ends c.put.new.self
    c.best_end-plus.result c.best_end-minus.result c.loop-place.invariant p.plus p.minus p.others
    (record { ends = a.ends; codes = a.codes }) (record { ends = b.ends; codes = b.codes })

pub returns-clause-ends : goal.returns-clause-ends
returns-clause-ends c = λ step steps step_in long are sums rows place sign within.
    (c.loop-place.invariant place sign (omega (arith, c.loop-place-test.false))).ends step steps step_in long are sums
    rows

pub returns-clause-codes : goal.returns-clause-codes
returns-clause-codes c = λ step place sign step_in within.
    (c.loop-place.invariant place sign (omega (arith, c.loop-place-test.false))).codes step step_in
