use Rattle.luma_row.specs.KeptLight.{SumsSoFar}
use Rattle.luma_row.proofs.light.sum_up.Given as goal

abbrev pub invariant-loop-at : goal.invariant-loop-at
invariant-loop-at l = SumsSoFar l.row l.sums l.sum l.at
