use Rattle.tape_sound.proofs.Hundredth.{steady}
use Rattle.tape_sound.proofs.laws.a_tape_within_a_hundredth_is_steady.Goals as goal

pub returns-clause-steady : goal.returns-clause-steady
returns-clause-steady c = steady
