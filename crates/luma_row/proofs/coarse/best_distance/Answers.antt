use Rattle.std.proofs.Common.{◌≡◌, ◌≤◌, ap, length, subst, ◌∙◌, arith}
use Rattle.luma_row.specs.Choice.{greatest}
use Rattle.luma_row.specs.Coarse.{best_at, sum_at}
use Rattle.luma_row.specs.KeptBest.{IsBestOf}
use Rattle.luma_row.specs.Width.{distance, distances, starts}
use Rattle.luma_row.proofs.coarse.best_distance.Goals as goal

pub loop-number-init : goal.loop-number-init
loop-number-init c =
    let row = c.args.row.now in
    let at = c.distance.ensures.value ∙ ap (λ w. distance w 0) c.width_of-width.ensures.value in
    c.first-best.ensures (best_at row)
    (c.best_sum.ensures ∙ ap (λ d. greatest (starts (length row) d) (sum_at row d)) at)

pub loop-number-preserved : goal.loop-number-preserved
loop-number-preserved c =
    let row = c.args.row.now in
    let at = c.distance-in-loop-number.ensures.value
    ∙ ap (λ w. distance w c.loop-number.number) c.width_of-width.ensures.value in
    c.or-best.ensures (best_at row) c.loop-number.invariant
    (c.best_sum-sum.ensures ∙ ap (λ d. greatest (starts (length row) d) (sum_at row d)) at)

pub returns : goal.returns
returns c =
    let d = c.distances-number-end.ensures in
    let is = d ∙ ap distances c.width_of-width.ensures.value in
    let some : 1 ≤ c.distances-number-end.result = omega (arith, d) in
    let all : c.loop-number.number ≡ c.distances-number-end.result =
    omega (arith, some, c.loop-number-test.false, c.loop-number.auto.number-end) in
    subst (λ n. IsBestOf n (best_at c.args.row.now) c.loop-number.best.sum c.loop-number.best.number) (all ∙ is)
    c.loop-number.invariant
