use Rattle.frame_commands.proofs.ToldOfFrames.{messages_are_kept}
use Rattle.frame_commands.proofs.ltc_mtc.LtcMtcCommand.keeps_its_promise.Goals as goal

pub returns : goal.returns
returns c = messages_are_kept (record {
  marked = c.invention_is_bounded_and_marked.ensures.marked;
  heard = c.invention_is_bounded_and_marked.ensures.heard;
  tape = c.what_is_heard_tells_the_tape.ensures;
}) c.args.self.now.flight
