use Rattle.std.proofs.Common.{◌≡◌, suc, ◌+◌, ap, drop, sym, ◌∙◌, arith}
use Rattle.step_grid.specs.declared.grid.Grid.TheVariants.{Repeat}
use Rattle.tc_job.specs.PathGrid.{first_fit, grids}
use Rattle.tc_job.proofs.FirstFit.{first_behind, first_here}
use Rattle.tc_job.proofs.path_grid.grid_for.Goals as goal

pub returns-then-is_fit-clause-value : goal.returns-then-is_fit-clause-value
returns-then-is_fit-clause-value c =
    sym (c.loop-grid.invariant.left
    ∙ first_here c.args.system c.args.samples c.loop-grid.grid-index grids (Repeat 0) c.loop-grid-test.true
    (sym c.is_fit.ensures ∙ c.if-is_fit.true))

pub loop-grid-preserved : goal.loop-grid-preserved
loop-grid-preserved c =
    let next : suc c.loop-grid.grid-index ≡ c.loop-grid.grid-index + 1 = omega arith in
    record {
      left = c.loop-grid.invariant.left
          ∙ first_behind c.args.system c.args.samples c.loop-grid.grid-index grids (Repeat 0) c.loop-grid-test.true
          (sym c.is_fit.ensures ∙ c.if-is_fit.false)
          ∙ ap (λ n. first_fit c.args.system c.args.samples (drop n grids)) next;
    }

pub returns-clause-value : goal.returns-clause-value
unfolding first_fit
returns-clause-value c =
    let end : c.loop-grid.grid-index ≡ 16 = omega arith in
    sym (c.loop-grid.invariant.left ∙ ap (λ n. first_fit c.args.system c.args.samples (drop n grids)) end)
