use Rattle.frame_commands.proofs.ToldOfFrames.{fly_is_lawful}
use Rattle.frame_commands.proofs.ltc_fly.LtcFlyCommand.is_lawful.Goals as goal

pub returns : goal.returns
returns c = λ command. fly_is_lawful (record {
  grow = c.recordings_grow.ensures;
  frames = c.what_is_made_of_frames_is_in_order.ensures;
  one_list = c.what_is_heard_is_in_order.ensures;
}) c.each_sink_of_frames_adds_in_order.ensures.lines command.flight
