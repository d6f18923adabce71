use Rattle.pcm_front.proofs.NearSums.{sums_near}
use Rattle.pcm_front.proofs.laws.a_finer_distance_is_near.Goals as goal

pub returns : goal.returns
returns c = λ fineness threshold samples first count some. sums_near fineness threshold samples first count some
