use Rattle.std.proofs.Common.{length, take, ◌-◌, ◌≡◌, ◌≤◌, [], None}
use Rattle.std.specs.Io.KnownBytes.{Appends}
use Rattle.tc_io.proofs.sink.push_all.Given as goal

-- the bytes before `at` were appended, and no push failed
abbrev pub invariant-loop-at : goal.invariant-loop-at
invariant-loop-at g l = record {
  within : l.at ≤ length l.bytes;
  appended : Appends (g.K.Sink.written l.fn.sink) (g.K.Sink.written l.sink) (take l.at l.bytes);
  same : g.K.Sink.faults l.sink ≡ g.K.Sink.faults l.fn.sink;
  untold : g.K.Sink.written l.fn.sink ≡ None → g.K.Sink.written l.sink ≡ None;
  idle : l.bytes ≡ [] → l.sink ≡ l.fn.sink;
}

abbrev pub decreases-loop-at : goal.decreases-loop-at
decreases-loop-at g l = length l.bytes - l.at
