use Rattle.std.proofs.Common.{◌^◌, refl, replicate, arith}
use Rattle.luma_row.specs.Coarse.{step_to}
use Rattle.luma_row.proofs.Filled.{filled_to, nothing_filled, one_filled}
use Rattle.luma_row.proofs.coarse.steps_of.Goals as goal

pub loop-pair-init : goal.loop-pair-init
loop-pair-init c = nothing_filled (step_to c.args.apart) 9 (2 ^ 18) (replicate 9 0) refl

pub loop-pair-preserved : goal.loop-pair-preserved
loop-pair-preserved c =
    one_filled (step_to c.args.apart) 9 (2 ^ 18) c.loop-pair.pair c.step_to.result c.loop-pair.steps
    c.loop-pair.invariant
    c.loop-pair-test.true c.step_to.ensures.step c.step_to.ensures.most

pub returns : goal.returns
returns c = filled_to (step_to c.args.apart) 9 (2 ^ 18) c.loop-pair.pair 9 c.loop-pair.steps (omega arith)
    c.loop-pair.invariant
