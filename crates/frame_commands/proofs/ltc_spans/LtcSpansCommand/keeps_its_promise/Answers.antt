use Rattle.frame_commands.proofs.ToldOfFrames.{spans_are_kept}
use Rattle.frame_commands.proofs.ltc_spans.LtcSpansCommand.keeps_its_promise.Goals as goal

pub returns : goal.returns
returns c = spans_are_kept (record {
  heard = c.invention_is_bounded_and_marked.ensures.heard;
  go_on = c.a_frame_that_goes_on_is_the_next.ensures;
  all = c.spans_share_the_frames_out.ensures.all;
  within = c.spans_share_the_frames_out.ensures.within;
  stepped = c.a_span_ends_stepped.ensures;
  last = c.the_open_span_has_the_last_line.ensures;
  tape = c.what_is_heard_tells_the_tape.ensures;
  order = c.events_come_in_order.ensures;
  spans_order = c.spans_come_in_order.ensures;
}) c.args.self.now.flight
