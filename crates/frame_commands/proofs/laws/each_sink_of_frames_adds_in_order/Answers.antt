use Rattle.frame_commands.proofs.FramesFirst.{cells_in_order, lines_in_order, messages_in_order, spans_in_order}
use Rattle.frame_commands.proofs.FramesFirst.{steps_in_order}
use Rattle.frame_commands.proofs.laws.each_sink_of_frames_adds_in_order.Goals as goal

pub returns-clause-lines : goal.returns-clause-lines
returns-clause-lines c = lines_in_order

pub returns-clause-spans : goal.returns-clause-spans
returns-clause-spans c = spans_in_order c.final_lines_come_first.ensures

pub returns-clause-messages : goal.returns-clause-messages
returns-clause-messages c = messages_in_order c.messages_of_a_front_come_first.ensures

pub returns-clause-cells : goal.returns-clause-cells
returns-clause-cells c = cells_in_order c.a_clean_recording_is_written_frame_by_frame.ensures

pub returns-clause-steps : goal.returns-clause-steps
returns-clause-steps c = steps_in_order (record {
  none = c.a_frame_adds_a_line.ensures.none;
  line = c.a_frame_adds_a_line.ensures.line;
  lines = c.a_frame_adds_a_line.ensures.lines;
})
