use Rattle.pcm_front.proofs.IntervalsStay.{intervals-stay}
use Rattle.pcm_front.proofs.laws.intervals_of_a_front_come_first.Goals as goal

pub returns : goal.returns
returns c = λ pace settings front more is. intervals-stay pace settings front more is
