use Rattle.pcm_front.proofs.Rising.{distances-some}
use Rattle.pcm_front.proofs.laws.moments_rise.Goals as goal

pub returns : goal.returns
returns c = λ fineness threshold samples some. distances-some fineness threshold samples some
