use Rattle.pcm_front.proofs.AllCovered.{tell_the_crossings}
use Rattle.pcm_front.proofs.laws.intervals_tell_the_crossings.Goals as goal

pub returns : goal.returns
returns c = tell_the_crossings
