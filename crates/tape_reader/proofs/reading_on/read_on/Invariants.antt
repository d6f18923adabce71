use Rattle.std.proofs.Common.{◌≤◌, [], length, take, ◌-◌}
use Rattle.direction_reader.specs.Reading.{ReadsMore}
use Rattle.tape_reader.specs.Reads.{Keeps}
use Rattle.tape_reader.proofs.reading_on.read_on.Given as goal

abbrev pub invariant-reading : goal.invariant-reading
invariant-reading g l = record {
  at : l.at ≤ length l.intervals;
  keeps : Keeps (g.R.Reading.reading l.fn.reader) (g.R.Reading.reading l.reader);
  brings : ReadsMore (g.R.Reading.reading l.fn.reader) (g.R.Reading.reading l.reader) (take l.at l.intervals) [];
}

abbrev pub decreases-reading : goal.decreases-reading
decreases-reading g l = length l.intervals - l.at
