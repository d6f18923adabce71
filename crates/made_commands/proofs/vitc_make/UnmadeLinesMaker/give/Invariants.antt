use Rattle.std.proofs.Common.{◌≡◌, ◌<◌, ◌++◌, None}
use Rattle.made_commands.specs.KeptLines.{frame_bytes}
use Rattle.made_commands.proofs.vitc_make.UnmadeLinesMaker.give.Given as goal

-- the frames in the room and those that are left are the whole
abbrev pub invariant-frames : goal.invariant-frames
invariant-frames l = record {
  behind : l.self.header ≡ None;
  rest : l.room.items ++ frame_bytes l.self.length l.self.label l.self.frames ≡ frame_bytes l.fn.self.length
      l.fn.self.label l.fn.self.frames;
  fewer : l.self.frames < l.fn.self.frames;
}

abbrev pub decreases-frames : goal.decreases-frames
decreases-frames l = l.self.frames
