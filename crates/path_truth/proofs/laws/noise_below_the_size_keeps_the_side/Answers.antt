use Rattle.path_truth.proofs.Recorded.{noise_keeps}
use Rattle.path_truth.proofs.laws.noise_below_the_size_keeps_the_side.Goals as goal

pub returns : goal.returns
returns c = noise_keeps
