use Rattle.std.proofs.Common.{◌+◌, ◌-◌, ◌<◌, ◌≤◌, take, length}
use Rattle.limits.specs.declared.recording.TheConstants.{MAX_INTERVALS}
use Rattle.tc_command.specs.KeptBrings.{Brings}
use Rattle.interval_engine.specs.KeptAlong.{IsGoing, Stands}
use Rattle.interval_engine.proofs.along.Begun.run.Given as goal

-- the intervals so far were taken
abbrev pub invariant-run : goal.invariant-run
invariant-run g l = record {
  within : l.at ≤ length l.bytes;
  room : l.intervals + length l.bytes ≤ MAX_INTERVALS + l.at;
  going : IsGoing g.B.Behind.fits l.behind (l.first + l.at) l.intervals;
  fewer : l.fn.self.intervals ≤ l.intervals;
  more : 0 < l.at → l.fn.self.intervals < l.intervals;
  works : (choice : _) → Brings g.O.Output.given
      (Stands g.B.Behind.stands l.fn.self.version l.fn.self.behind l.fn.self.taken l.fn.self.intervals choice)
      (Stands g.B.Behind.stands l.fn.self.version l.behind (l.first + l.at) l.intervals choice)
      l.fn.out l.out (take l.at l.bytes);
}

abbrev pub decreases-run : goal.decreases-run
decreases-run g l = length l.bytes - l.at
