use Rattle.pcm_front.proofs.InPieces.{sum-pieces_of, pieces_of-intervals}
use Rattle.pcm_front.proofs.laws.intervals_add_up_to_their_distance.Goals as goal

pub returns-clause-sum : goal.returns-clause-sum
returns-clause-sum c = λ distance some. sum-pieces_of distance some

pub returns-clause-range : goal.returns-clause-range
returns-clause-range c = λ distance some. pieces_of-intervals distance some
