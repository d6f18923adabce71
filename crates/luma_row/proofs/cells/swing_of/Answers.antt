use Rattle.std.proofs.Common.{◌≡◌, ◌+◌, ◌-◌, ◌*◌, ap, ap₂, sym, subst, get_or, arith, ◌∙◌}
use Rattle.luma_row.specs.Cells.{dark_of, light_of, swing}
use Rattle.luma_row.specs.Choice.{sum_of}
use Rattle.luma_row.proofs.FallByFall.{sum_of_more, sum_of_none}
use Rattle.luma_row.proofs.cells.swing_of.Goals as goal

pub loop-pair-init : goal.loop-pair-init
loop-pair-init c = (
  omega arith,
  sym (sum_of_none (light_of c.args.cells.now)),
  omega arith,
  sym (sum_of_none (dark_of c.args.cells.now)),
  omega arith,
)

pub overflow_add-light : goal.overflow_add-light
overflow_add-light c =
    let most = c.requires (10 * c.loop-pair.pair) (omega (arith, c.loop-pair-test.true)) in
    omega (arith, most, c.loop-pair.invariant.2, c.loop-pair-test.true)

pub overflow_add-dark : goal.overflow_add-dark
overflow_add-dark c =
    let most = c.requires (10 * c.loop-pair.pair + 1) (omega (arith, c.loop-pair-test.true)) in
    omega (arith, most, c.loop-pair.invariant.4, c.loop-pair-test.true)

pub loop-pair-preserved : goal.loop-pair-preserved
loop-pair-preserved c =
    let i = c.loop-pair.invariant in
    let n = c.loop-pair.pair in
    let cells = c.args.cells.now in
    let light = c.requires (10 * n) (omega (arith, c.loop-pair-test.true)) in
    let dark = c.requires (10 * n + 1) (omega (arith, c.loop-pair-test.true)) in (
      omega (arith, c.loop-pair-test.true),
      ap (λ s. s + get_or cells (10 * n) 0) i.1 ∙ sym (sum_of_more n (light_of cells)),
      omega (arith, light, i.2),
      ap (λ s. s + get_or cells (10 * n + 1) 0) i.3 ∙ sym (sum_of_more n (dark_of cells)),
      omega (arith, dark, i.4),
    )

pub returns-clause-swing : goal.returns-clause-swing
unfolding swing
returns-clause-swing c =
    let i = c.loop-pair.invariant in
    let all : c.loop-pair.pair ≡ 9 = omega (arith, i.0, c.loop-pair-test.false) in
    let light = subst (λ n. c.loop-pair.light ≡ sum_of n (light_of c.args.cells.now)) all i.1 in
    let dark = subst (λ n. c.loop-pair.dark ≡ sum_of n (dark_of c.args.cells.now)) all i.3 in
    c.saturating_sub.ensures ∙ ap₂ ◌-◌ light dark

pub returns-clause-most : goal.returns-clause-most
returns-clause-most c =
    let i = c.loop-pair.invariant in
    omega (arith, i.0, i.2)
