use Rattle.pcm_front.specs.Crossing.{moments}
use Rattle.pcm_front.proofs.Rising.{from_start-is}
use Rattle.pcm_front.proofs.laws.the_first_distance_leads_to_the_first_crossing.Goals as goal

pub returns : goal.returns
returns c = λ fineness threshold samples first more are. from_start-is (moments fineness threshold samples) first more
    are
