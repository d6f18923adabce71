use Rattle.std.proofs.Common.{◌≡◌, ◌<◌, ◌≤◌, ap, length, get_or, subst, ◌∙◌, arith}
use Rattle.luma_row.specs.Coarse.{pixel_of, sum_at}
use Rattle.luma_row.specs.KeptBest.{IsBestOf}
use Rattle.luma_row.specs.Width.{start, starts}
use Rattle.luma_row.proofs.Within.{few_starts}
use Rattle.luma_row.proofs.coarse.best_start.Goals as goal

pub loop-number-init : goal.loop-number-init
loop-number-init c =
    let row = c.args.row.now in
    let at = c.start_pixel-first.ensures ∙ ap (λ w. pixel_of (start w 0)) c.width_of-width.ensures.value in
    let some : 0 < starts (length row) c.args.apart = omega arith in
    let is = c.sums_of_starts.ensures.sums 0 some in
    c.first-best.ensures (sum_at row c.args.apart) (ap (λ p. get_or c.sums_of_starts.new.sums p 0) at ∙ is)

pub loop-number-preserved : goal.loop-number-preserved
loop-number-preserved c =
    let row = c.args.row.now in
    let number = c.loop-number.number in
    let wide = c.width_of-width.ensures.value in
    let at = c.start_pixel-pixel.ensures ∙ ap (λ w. pixel_of (start w number)) wide in
    let count = c.starts-number-end.ensures ∙ ap (λ w. starts w c.args.apart) wide in
    let below : number < starts (length row) c.args.apart = omega (arith, c.loop-number-test.true, count) in
    let is = c.sums_of_starts.ensures.sums number below in
    c.or-best.ensures (sum_at row c.args.apart) c.loop-number.invariant
    (ap (λ p. get_or c.sums_of_starts.new.sums p 0) at ∙ is)

pub start_pixel-pixel-requires-clause-number : goal.start_pixel-pixel-requires-clause-number
start_pixel-pixel-requires-clause-number c =
    let count = c.starts-number-end.ensures ∙ ap (λ w. starts w c.args.apart) c.width_of-width.ensures.value in
    few_starts (length c.args.row.now) c.args.apart c.loop-number.number c.requires.row c.requires.narrow
    (omega (arith, c.loop-number-test.true, count))

pub returns : goal.returns
returns c =
    let row = c.args.row.now in
    let count = c.starts-number-end.ensures ∙ ap (λ w. starts w c.args.apart) c.width_of-width.ensures.value in
    let some : 1 ≤ c.starts-number-end.result = omega (arith, c.starts-number-end.ensures) in
    let all : c.loop-number.number ≡ c.starts-number-end.result =
    omega (arith, some, c.loop-number-test.false, c.loop-number.auto.number-end) in
    subst (λ n. IsBestOf n (sum_at row c.args.apart) c.loop-number.best.sum c.loop-number.best.number) (all ∙ count)
    c.loop-number.invariant
