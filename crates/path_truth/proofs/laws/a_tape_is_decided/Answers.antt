use Rattle.path_truth.proofs.DecidedTape.{decided-tape}
use Rattle.path_truth.proofs.laws.a_tape_is_decided.Goals as goal

pub returns : goal.returns
returns c = decided-tape
