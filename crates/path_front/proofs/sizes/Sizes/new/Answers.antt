use Rattle.path_front.proofs.LatestSizes.{are_none, stand_for_none}
use Rattle.path_front.proofs.sizes.Sizes.new.Goals as goal

pub invariant_of-result : goal.invariant_of-result
invariant_of-result c = are_none

pub returns-clause-stands : goal.returns-clause-stands
returns-clause-stands c = stand_for_none
