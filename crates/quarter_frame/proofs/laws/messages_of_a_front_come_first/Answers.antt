use Rattle.quarter_frame.proofs.FramesStandFirst.{messages_of_a_front}
use Rattle.quarter_frame.proofs.laws.messages_of_a_front_come_first.Goals as goal

pub returns : goal.returns
returns c = messages_of_a_front
