use Rattle.std.proofs.Common.{ap}
use Rattle.pcm_front.specs.Distance.{gaps}
use Rattle.pcm_front.proofs.Rising.{moments-whole}
use Rattle.pcm_front.proofs.laws.whole_samples_are_places.Goals as goal

pub returns-clause-moments : goal.returns-clause-moments
returns-clause-moments c = λ threshold samples. moments-whole threshold samples

pub returns-clause-distances : goal.returns-clause-distances
returns-clause-distances c = λ threshold samples. ap gaps (moments-whole threshold samples)
