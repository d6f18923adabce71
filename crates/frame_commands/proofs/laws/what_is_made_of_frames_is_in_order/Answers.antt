use Rattle.frame_commands.proofs.MadeInOrder.{frames_in_order}
use Rattle.frame_commands.proofs.laws.what_is_made_of_frames_is_in_order.Goals as goal

pub returns : goal.returns
returns c = λ flight made adds. frames_in_order (record {
  heard = c.what_is_heard_is_in_order.ensures;
  frames = c.frames_of_a_front_come_first.ensures;
}) flight.witness flight made adds
