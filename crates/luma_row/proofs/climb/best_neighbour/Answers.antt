use Rattle.std.proofs.Common.{◌≡◌, sym, subst, arith}
use Rattle.luma_row.specs.Climb.{worth}
use Rattle.luma_row.specs.KeptBest.{IsBestOf}
use Rattle.luma_row.proofs.MoveByMove.{no_step}
use Rattle.luma_row.proofs.climb.best_neighbour.Goals as goal

pub returns-then-step-eq0 : goal.returns-then-step-eq0
returns-then-step-eq0 c =
    subst (λ s. IsBestOf 9 (worth c.args.row.now c.args.place s) c.first-best.result.sum c.first-best.result.number)
    (sym c.if-step-eq0.true)
    (no_step c.args.row.now c.args.place c.first-best.result.sum c.first-best.result.number
    (c.first-best.ensures (worth c.args.row.now c.args.place 0) c.requires.own))

pub loop-number-init : goal.loop-number-init
loop-number-init c = c.first-best.ensures (worth c.args.row.now c.args.place c.args.step) c.requires.own

pub loop-number-preserved : goal.loop-number-preserved
loop-number-preserved c =
    c.or-best.ensures (worth c.args.row.now c.args.place c.args.step) c.loop-number.invariant c.worth.ensures

pub returns : goal.returns
returns c =
    let all : c.loop-number.number ≡ 9 = omega (arith, c.loop-number-test.false, c.loop-number.auto.number-end) in
    subst (λ n. IsBestOf n (worth c.args.row.now c.args.place c.args.step) c.loop-number.best.sum
    c.loop-number.best.number) all c.loop-number.invariant
