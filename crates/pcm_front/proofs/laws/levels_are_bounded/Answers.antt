use Rattle.pcm_front.proofs.Bounds.{level_of-within}
use Rattle.pcm_front.proofs.laws.levels_are_bounded.Goals as goal

pub returns-clause-peak : goal.returns-clause-peak
returns-clause-peak c = λ most samples sizes. (level_of-within most samples sizes).0

pub returns-clause-sum : goal.returns-clause-sum
returns-clause-sum c = λ most samples sizes. (level_of-within most samples sizes).1
