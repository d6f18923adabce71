use Rattle.std.proofs.Common.{◌+◌, ◌<◌, subst, sym, ◌∙◌}
use Rattle.cell_path.proofs.LeastLack.{first_least, least_comes, least_stays, LeastSoFar}
use Rattle.cell_path.proofs.lacks.Lacks.least.Goals.{else-less, then-less}
use Rattle.cell_path.proofs.lacks.Lacks.least.Goals as goal

pub loop-ago-init : goal.loop-ago-init
loop-ago-init c = first_least c.args.self.now

pub loop-ago-preserved : goal.loop-ago-preserved
loop-ago-preserved c =
    let lacks = c.args.self.now in
    let n = c.loop-ago.ago in
    let least = c.loop-ago.least in
    let few : n < 96 = c.loop-ago-test.true in
    elim c.if-less.branch [
      | then-less w ↦ subst (LeastSoFar lacks (n + 1)) (sym w.least-is)
          (least_comes lacks n least few (λ x y one two near. c.less.ensures.yes x y (c.ago.ensures ∙ one)
          (c.ago-in-loop-ago.ensures ∙ two) near w.if-less.true) c.loop-ago.invariant)
      | else-less w ↦ subst (LeastSoFar lacks (n + 1)) (sym w.least-is)
          (least_stays lacks n least few (λ x y one two near. c.less.ensures.no x y (c.ago.ensures ∙ one)
          (c.ago-in-loop-ago.ensures ∙ two) near w.if-less.false) c.loop-ago.invariant)
    ]
