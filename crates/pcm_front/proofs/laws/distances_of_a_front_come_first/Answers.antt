use Rattle.pcm_front.proofs.SumsStay.{sliced-stay}
use Rattle.pcm_front.proofs.laws.distances_of_a_front_come_first.Goals as goal

pub returns : goal.returns
returns c = λ settings front more. sliced-stay settings front more
