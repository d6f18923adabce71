use Rattle.std.proofs.Common.{◌≡◌, ◌+◌, ◌-◌, ◌*◌, arith, subst, sym}
use Rattle.cell_path.specs.declared.lengths.TheConstants.{JUMP, LENGTHS}
use Rattle.cell_path.specs.Lengths.{length_in}
use Rattle.cell_path.specs.Started.{AreTimes, StartsSoFar}
use Rattle.cell_path.proofs.CostsOfCells.{even_costs}
use Rattle.cell_path.proofs.starts.begin_some.Goals as goal

pub loop-place-init : goal.loop-place-init
loop-place-init c = record {
  reached = omega arith;
  jump = subst (λ k. AreTimes c.args.levels (JUMP * k) c.times-jump.result) c.length_at.ensures.value
      c.times-jump.ensures;
  started = λ first so_far. so_far;
}

pub loop-place-preserved : goal.loop-place-preserved
loop-place-preserved c =
    let l = c.loop-place.invariant in
    let p = c.loop-place.place in
    let costs = even_costs c.args.levels c.args.rise c.args.from c.args.to p c.times-by.result c.times-more.result
    c.loop-place.jump c.plus-next.result c.requires.even l.reached c.loop-place-test.true c.times-by.ensures
    c.times-more.ensures l.jump c.plus-next.ensures in
    let back : p + 1 - 1 ≡ p = omega arith in
    record {
      reached = let r = l.reached in omega (arith, r);
      jump = subst (λ k. AreTimes c.args.levels (JUMP * length_in LENGTHS k) c.plus-next.result) (sym back) costs.jump;
      started = λ first so_far. c.begin.ensures.started first c.args.levels costs (l.started first so_far);
    }

pub returns : goal.returns
returns c = record {
  started = λ first so_far.
      let r = c.loop-place.invariant.reached in
      let here : c.loop-place.place ≡ c.args.to =
      omega (arith, c.loop-place-test.false, c.loop-place.auto.place-end, c.requires.order, r) in
      subst (StartsSoFar first c.loop-place.rows c.loop-place.marks c.args.ends.now c.args.best c.args.levels) here
      (c.loop-place.invariant.started first so_far);
}
