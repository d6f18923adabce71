use Rattle.std.proofs.Common.{sym, subst, ◌∙◌, arith}
use Rattle.luma_row.specs.KeptPlace.{IsNear}
use Rattle.luma_row.proofs.PlacesTried.{they_fall, they_fall_not, within_none}
use Rattle.luma_row.proofs.earliest.earliest.Goals as goal
use Rattle.luma_row.proofs.earliest.earliest.Goals.{then-all_fall, else-all_fall}

pub loop-cells-init : goal.loop-cells-init
loop-cells-init c =
    let order = c.requires.place.order in
    let last = c.requires.place.last in (
      omega arith,
      sym (within_none c.args.row.now c.args.deepest),
      record {
        order = omega (arith, order);
        last = omega (arith, last);
      },
    )

pub loop-cells-preserved : goal.loop-cells-preserved
loop-cells-preserved c =
    let row = c.args.row.now in
    let deepest = c.args.deepest in
    let cells = c.loop-cells.cells in
    let other = c.back-other.ensures in
    elim c.if-all_fall.branch [
      | then-all_fall w ↦ (
        omega (arith, c.loop-cells-test.true),
        w.best-is
            ∙ they_fall row deepest c.back-other.result c.falls-sum.result cells c.falls-sum.ensures other.back
            (sym c.all_fall.ensures ∙ w.if-all_fall.true),
        subst IsNear (sym w.best-is) other.place,
      )
      | else-all_fall w ↦ (
        omega (arith, c.loop-cells-test.true),
        w.best-is ∙ (c.loop-cells.invariant.1
            ∙ they_fall_not row deepest c.back-other.result c.falls-sum.result cells c.falls-sum.ensures other.back
            (sym c.all_fall.ensures ∙ w.if-all_fall.false)),
        subst IsNear (sym w.best-is) c.loop-cells.invariant.2,
      )
    ]
