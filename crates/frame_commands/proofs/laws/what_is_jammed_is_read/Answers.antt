use Rattle.frame_commands.proofs.CleanCopy.{copy_is_clean}
use Rattle.frame_commands.proofs.laws.what_is_jammed_is_read.Goals as goal

pub returns : goal.returns
returns c = copy_is_clean (record {
  shaped_so = c.cells_of_one_length_are_shaped.ensures;
  read = c.clean_recordings_are_read.ensures;
  intervals = c.shaped_cells_are_a_chain.ensures.intervals;
  events = c.what_is_heard_has_labels_of_its_system.ensures;
  frames = c.what_is_read_has_labels_of_its_system.ensures.frames;
  heard = record {
    marked = c.invention_is_bounded_and_marked.ensures.marked;
    heard = c.invention_is_bounded_and_marked.ensures.heard;
    tape = c.what_is_heard_tells_the_tape.ensures;
  };
})
