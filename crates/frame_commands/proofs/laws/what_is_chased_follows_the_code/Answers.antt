use Rattle.frame_commands.proofs.FollowsTheFrames.{chase_follows}
use Rattle.frame_commands.proofs.laws.what_is_chased_follows_the_code.Goals as goal

pub returns : goal.returns
returns c = chase_follows (record {
  events = c.what_is_heard_has_labels_of_its_system.ensures;
  labels = c.what_is_read_has_labels_of_its_system.ensures.frames;
  go_on = c.a_frame_that_goes_on_is_the_next.ensures;
  heard = record {
    marked = c.invention_is_bounded_and_marked.ensures.marked;
    heard = c.invention_is_bounded_and_marked.ensures.heard;
    tape = c.what_is_heard_tells_the_tape.ensures;
  };
  cause = c.each_loss_has_a_cause.ensures.cause;
  no_code = c.each_loss_has_a_cause.ensures.no_code;
  no_loss = c.whole_code_keeps_the_lock.ensures.no_loss;
  near = c.whole_code_keeps_the_lock.ensures.near;
  nearer = c.whole_code_keeps_the_lock.ensures.nearer;
})
