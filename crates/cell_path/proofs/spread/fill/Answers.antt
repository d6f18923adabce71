use Rattle.std.proofs.Common.{◌≡◌, arith, subst}
use Rattle.cell_path.specs.Started.{AreSpread}
use Rattle.cell_path.proofs.MarksOfFour.{none_spread, one_more_spread}
use Rattle.cell_path.proofs.spread.fill.Goals as goal

pub loop-place-init : goal.loop-place-init
loop-place-init c = none_spread c.args.lengths.now c.args.marks.now

pub loop-place-preserved : goal.loop-place-preserved
loop-place-preserved c =
    let p = c.put.ensures in
    one_more_spread c.args.lengths.now c.args.marks.now c.loop-place.marks c.put.new.marks c.loop-place.place
    c.loop-place.invariant p.here p.others p.best

pub returns : goal.returns
returns c =
    let all : c.loop-place.place ≡ 45 = omega (arith, c.loop-place-test.false, c.loop-place.auto.place-end) in
    record {
      all = subst (λ n. AreSpread n c.args.lengths.now c.args.marks.now c.loop-place.marks) all
          c.loop-place.invariant;
    }
