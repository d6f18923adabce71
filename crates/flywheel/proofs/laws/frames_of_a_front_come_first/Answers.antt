use Rattle.flywheel.proofs.LaterTicks.{frames_of_a_front}
use Rattle.flywheel.proofs.laws.frames_of_a_front_come_first.Goals as goal

pub returns : goal.returns
returns c = frames_of_a_front
