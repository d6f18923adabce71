use Rattle.pcm_front.proofs.Rising.{sliced-some}
use Rattle.pcm_front.proofs.laws.distances_are_some.Goals as goal

pub returns : goal.returns
returns c = λ settings samples some. sliced-some settings samples some
