use Rattle.std.proofs.Common.{rules, ◌≡◌, get_or, length, subst, arith}
use Rattle.luma_row.specs.KeptLight.{AreSumsTo}
use Rattle.luma_row.proofs.PixelByPixel.{no_pixel, one_more_pixel}
use Rattle.luma_row.proofs.light.sum_up.Goals as goal

pub loop-at-init : goal.loop-at-init
loop-at-init c = no_pixel c.args.row.now c.args.sums.now c.told-sums

pub overflow_add-sum : goal.overflow_add-sum
overflow_add-sum c =
    let i = c.loop-at.invariant in
    let m = i.are.most c.loop-at.at (omega arith) in
    let b = c.type_inv.row c.loop-at.at in
    let f : c.from-sum.result ≡ get_or c.args.row.now c.loop-at.at 0 = search rules in
    omega (arith, m, i.latest, b, f, c.requires.1)

pub loop-at-preserved : goal.loop-at-preserved
loop-at-preserved c =
    let b = c.type_inv.row c.loop-at.at in
    let f : c.from-sum.result ≡ get_or c.args.row.now c.loop-at.at 0 = search rules in
    one_more_pixel c.args.row.now c.loop-at.sums c.loop-at.sum c.loop-at.at c.from-sum.result c.loop-at.invariant
    c.loop-at-test.true c.requires.1 f (omega (arith, b, f))

pub returns : goal.returns
returns c =
    let i = c.loop-at.invariant in
    let all : c.loop-at.at ≡ length c.args.row.now = omega (arith, i.within, c.loop-at-test.false) in
    subst (λ n. AreSumsTo c.args.row.now c.loop-at.sums n) all i.are
