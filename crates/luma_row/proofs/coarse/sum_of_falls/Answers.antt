use Rattle.std.proofs.Common.{◌≡◌, ◌+◌, ◌*◌, ◌/◌, ap, ap₂, sym, subst, ◌∙◌, get_or, length, arith}
use Rattle.luma_row.specs.Choice.{sum_of}
use Rattle.luma_row.specs.Coarse.{coarse_fall, coarse_sum, fall_at, step_to}
use Rattle.luma_row.proofs.FallByFall.{sum_of_more, sum_of_none}
use Rattle.luma_row.proofs.Within.{step_within}
use Rattle.luma_row.proofs.coarse.sum_of_falls.Goals as goal

pub loop-pair-init : goal.loop-pair-init
loop-pair-init c = (
  omega arith,
  sym (sum_of_none (coarse_fall c.args.row.now c.args.apart (16 * c.args.pixel))),
  omega arith,
)

pub bounds-falls-pixel : goal.bounds-falls-pixel
bounds-falls-pixel c =
    let step = c.requires.steps.filled c.loop-pair.pair c.loop-pair-test.true in
    let w = step_within (length c.args.row.now) c.args.apart c.args.pixel c.loop-pair.pair
    (get_or c.args.steps.now c.loop-pair.pair 0) c.loop-pair-test.true step c.requires.within in
    omega (arith, w, c.requires.row.1)

pub overflow_add-sum-in-loop-pair : goal.overflow_add-sum-in-loop-pair
overflow_add-sum-in-loop-pair c =
    let step = c.requires.steps.filled c.loop-pair.pair c.loop-pair-test.true in
    let at = c.args.pixel + get_or c.args.steps.now c.loop-pair.pair 0 in
    let w = step_within (length c.args.row.now) c.args.apart c.args.pixel c.loop-pair.pair
    (get_or c.args.steps.now c.loop-pair.pair 0) c.loop-pair-test.true step c.requires.within in
    let most = c.requires.falls.within at w in
    omega (arith, most, c.loop-pair.invariant.2, c.loop-pair-test.true)

pub loop-pair-preserved : goal.loop-pair-preserved
loop-pair-preserved c =
    let i = c.loop-pair.invariant in
    let pixel = c.args.pixel in
    let step = c.requires.steps.filled c.loop-pair.pair c.loop-pair-test.true in
    let at = pixel + get_or c.args.steps.now c.loop-pair.pair 0 in
    let w = step_within (length c.args.row.now) c.args.apart pixel c.loop-pair.pair
    (get_or c.args.steps.now c.loop-pair.pair 0) c.loop-pair-test.true step c.requires.within in
    let most = c.requires.falls.within at w in
    let is = c.requires.falls.filled at w in
    let same : pixel ≡ (16 * pixel + 8) / 16 = omega arith in
    let fall = is ∙ (ap (λ s. fall_at c.args.row.now (pixel + s)) step
    ∙ ap (λ p. fall_at c.args.row.now (p + step_to c.args.apart c.loop-pair.pair)) same) in
    let more = sum_of_more c.loop-pair.pair (coarse_fall c.args.row.now c.args.apart (16 * pixel)) in (
      omega (arith, c.loop-pair-test.true),
      ap₂ ◌+◌ i.1 fall ∙ sym more,
      omega (arith, most, i.2),
    )

pub returns-clause-value : goal.returns-clause-value
unfolding coarse_sum
returns-clause-value c =
    let all : c.loop-pair.pair ≡ 9 = omega (arith, c.loop-pair.invariant.0, c.loop-pair-test.false) in
    subst (λ n. c.loop-pair.sum ≡ sum_of n (coarse_fall c.args.row.now c.args.apart (16 * c.args.pixel))) all
    c.loop-pair.invariant.1

pub returns-clause-most : goal.returns-clause-most
returns-clause-most c = omega (arith, c.loop-pair.invariant.0, c.loop-pair.invariant.2)
