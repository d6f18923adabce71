use Rattle.flywheel.proofs.GivenComeFirst.{given_come_first, a_word_adds_frames}
use Rattle.flywheel.proofs.laws.frames_come_in_order.Goals as goal

pub returns-clause-given : goal.returns-clause-given
returns-clause-given c = given_come_first

pub returns-clause-word : goal.returns-clause-word
returns-clause-word c = a_word_adds_frames
