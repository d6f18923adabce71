use Rattle.std.proofs.Common.{◌≡◌, refl, sym, subst, arith}
use Rattle.luma_row.specs.Choice.{sum_of}
use Rattle.luma_row.specs.Place.{pair_fall, score}
use Rattle.luma_row.proofs.FallByFall.{sum_of_more, sum_of_none}
use Rattle.luma_row.proofs.place.Place.score.Goals as goal

pub loop-pair-init : goal.loop-pair-init
loop-pair-init c = (omega arith, sym (sum_of_none (pair_fall c.args.row.now c.args.self)), omega arith)

pub loop-pair-preserved : goal.loop-pair-preserved
loop-pair-preserved c =
    let i = c.loop-pair.invariant in
    let more = sum_of_more c.loop-pair.pair (pair_fall c.args.row.now c.args.self) in
    let v = c.pair_fall-sum.ensures.value in
    (omega arith, rw (more, i.1, v) refl, omega (arith, c.pair_fall-sum.ensures.most))

pub returns : goal.returns
unfolding score
returns c =
    let all : c.loop-pair.pair ≡ 9 = omega arith in
    subst (λ n. c.loop-pair.sum ≡ sum_of n (pair_fall c.args.row.now c.args.self)) all c.loop-pair.invariant.1
