use Rattle.std.proofs.Common.{◌^◌}
use Rattle.luma_row.specs.Coarse.{step_to}
use Rattle.luma_row.specs.KeptTable.{IsFilled}
use Rattle.luma_row.proofs.coarse.steps_of.Given as goal

abbrev pub invariant-loop-pair : goal.invariant-loop-pair
invariant-loop-pair l = IsFilled (step_to l.apart) 9 (2 ^ 18) l.pair l.steps
