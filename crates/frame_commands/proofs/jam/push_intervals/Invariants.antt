use Rattle.std.proofs.Common.{◌≡◌, ◌+◌, ◌*◌, ◌++◌, take}
use Rattle.interval_file.specs.declared.header.FileVersion.TheVariants.{One}
use Rattle.interval_file.specs.Grammar.{intervals_bytes}
use Rattle.arrayvec.specs.ArrayVec.{array_vec_len}
use Rattle.frame_commands.proofs.jam.push_intervals.Given as goal

-- the first ones were put in
abbrev pub invariant-intervals : goal.invariant-intervals
invariant-intervals l = record {
  items : l.room.items ≡ l.fn.room.items ++ intervals_bytes One (take l.interval-index l.fn.intervals);
  len : array_vec_len l.room ≡ array_vec_len l.fn.room + 4 * l.interval-index;
}
