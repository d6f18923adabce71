use Rattle.pcm_front.proofs.InPieces.{pieces_in-range}
use Rattle.pcm_front.proofs.IntervalsStay.{joined_so}
use Rattle.pcm_front.proofs.laws.pieces_add_up_to_their_distance.Goals as goal

pub returns-clause-joined : goal.returns-clause-joined
returns-clause-joined c = λ length settings samples some fine. joined_so length settings samples some fine

pub returns-clause-range : goal.returns-clause-range
returns-clause-range c = λ length distance some some_too. pieces_in-range length distance some some_too
