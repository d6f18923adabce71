use Rattle.pcm_front.proofs.BytesAgain.{bytes_again}
use Rattle.pcm_front.proofs.laws.bytes_are_those_of_their_samples.Goals as goal

pub returns : goal.returns
returns c = bytes_again
