use Rattle.std.proofs.Common.{rules, ◌≡◌, ◌+◌, ◌<◌, ap, ap₂, sym, subst, length, get_or, max, ◌∙◌, arith}
use Rattle.luma_row.specs.Choice.{greatest}
use Rattle.luma_row.specs.Coarse.{pixel_of, sum_at}
use Rattle.luma_row.specs.Width.{start, starts}
use Rattle.luma_row.proofs.OneMore.{greatest_more, greatest_none}
use Rattle.luma_row.proofs.Within.{side_by_side}
use Rattle.luma_row.proofs.coarse.best_side_by_side.Goals as goal

pub loop-number-init : goal.loop-number-init
loop-number-init c = (omega arith, sym (greatest_none (sum_at c.args.row.now c.args.apart)))

pub loop-number-preserved : goal.loop-number-preserved
loop-number-preserved c =
    let row = c.args.row.now in
    let number = c.loop-number.number in
    let wide = c.width_of-width.ensures.value in
    let first = c.start_pixel-first.ensures ∙ ap (λ w. pixel_of (start w 0)) wide in
    let count = c.starts-count.ensures ∙ ap (λ w. starts w c.args.apart) wide in
    let below : number < starts (length row) c.args.apart = omega (arith, c.loop-number-test.true, count) in
    let at = ap (λ p. p + number) first ∙ sym (side_by_side (length row) number c.requires.grain) in
    let is = ap (λ p. get_or c.sums_of_starts.new.sums p 0) at ∙ c.sums_of_starts.ensures.sums number below in
    let greater : c.max-most.result ≡ max c.loop-number.most
    (get_or c.sums_of_starts.new.sums (c.start_pixel-first.result + number) 0) = search rules in (
      omega (arith, below),
      greater ∙ (ap₂ max c.loop-number.invariant.1 is ∙ sym (greatest_more number (sum_at row c.args.apart))),
    )

pub returns : goal.returns
returns c =
    let row = c.args.row.now in
    let count = c.starts-count.ensures ∙ ap (λ w. starts w c.args.apart) c.width_of-width.ensures.value in
    let i = c.loop-number.invariant in
    let all : c.loop-number.number ≡ starts (length row) c.args.apart =
    omega (arith, i.0, c.loop-number-test.false, count) in
    subst (λ n. c.loop-number.most ≡ greatest n (sum_at row c.args.apart)) all i.1
