use Rattle.path_truth.proofs.SoFarDecided.{tape-so-far}
use Rattle.path_truth.proofs.laws.a_tape_is_decided_as_it_goes_on.Goals as goal

pub returns : goal.returns
returns c = tape-so-far
