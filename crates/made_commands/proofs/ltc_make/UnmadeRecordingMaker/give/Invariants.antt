use Rattle.std.proofs.Common.{◌≡◌, ◌<◌, ◌++◌, None}
use Rattle.made_commands.specs.KeptStriping.{rest_of}
use Rattle.made_commands.proofs.ltc_make.UnmadeRecordingMaker.give.Given as goal

-- the frames in the room and those that are left are the whole
abbrev pub invariant-frames : goal.invariant-frames
invariant-frames l = record {
  behind : l.self.header ≡ None;
  rest : l.room.items ++ rest_of None l.self.shaper l.self.direction l.self.label l.self.frames
      ≡ rest_of None l.fn.self.shaper l.fn.self.direction l.fn.self.label l.fn.self.frames;
  fewer : l.self.frames < l.fn.self.frames;
}

abbrev pub decreases-frames : goal.decreases-frames
decreases-frames l = l.self.frames
