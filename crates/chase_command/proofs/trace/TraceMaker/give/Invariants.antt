use Rattle.std.proofs.Common.{◌≡◌, ◌<◌, ◌++◌}
use Rattle.chase_script.specs.Kept.{text_left, lines_left}
use Rattle.chase_command.proofs.trace.TraceMaker.give.Given as goal

-- the lines in the room and those that are left are the whole
abbrev pub invariant-lines : goal.invariant-lines
invariant-lines l = record {
  rest : text_left l.fn.self.lines ≡ l.room.items ++ text_left l.self.lines;
  fewer : lines_left l.self.lines < lines_left l.fn.self.lines;
}

abbrev pub decreases-lines : goal.decreases-lines
decreases-lines l = lines_left l.self.lines
