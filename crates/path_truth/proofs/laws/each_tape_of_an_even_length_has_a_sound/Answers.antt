use Rattle.path_truth.proofs.Recorded.{recorded}
use Rattle.path_truth.proofs.laws.each_tape_of_an_even_length_has_a_sound.Goals as goal

pub returns : goal.returns
returns c = recorded
