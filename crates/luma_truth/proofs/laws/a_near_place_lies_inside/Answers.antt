use Rattle.luma_truth.proofs.BothEnds.{near_lies_inside}
use Rattle.luma_truth.proofs.laws.a_near_place_lies_inside.Goals as goal

pub returns : goal.returns
returns c = near_lies_inside
