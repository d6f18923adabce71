use Rattle.std.proofs.Common.{ap}
use Rattle.pcm_front.specs.Distance.{distances}
use Rattle.pcm_front.proofs.SumsStay.{sums-one}
use Rattle.pcm_front.proofs.laws.sums_of_one_are_the_samples.Goals as goal

pub returns-clause-sums : goal.returns-clause-sums
returns-clause-sums c = λ samples. sums-one samples

pub returns-clause-distances : goal.returns-clause-distances
returns-clause-distances c = λ fineness threshold samples. ap (distances fineness threshold) (sums-one samples)
