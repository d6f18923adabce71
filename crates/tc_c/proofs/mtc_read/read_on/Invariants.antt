use Rattle.std.proofs.Common.{◌≡◌, ◌≤◌, ◌+◌, ◌-◌, length, take, drop}
use Rattle.tc_c.specs.Write.{MtcGoes}
use Rattle.tc_c.proofs.mtc_read.read_on.Given as goal

abbrev pub invariant-reading : goal.invariant-reading
invariant-reading l = record {
  at : l.at ≤ length l.bytes;
  made : l.made ≤ length l.events;
  count : l.reader.bytes ≡ l.fn.reader.bytes + l.at;
  goes : MtcGoes l.fn.reader l.reader (take l.at l.bytes) (take l.made l.events);
  few : length l.fn.events ≡ 0 → (l.at ≡ 0) × (l.made ≡ 0) × (l.reader ≡ l.fn.reader);
  rest : drop l.made l.events ≡ drop l.made l.fn.events;
}

abbrev pub decreases-reading : goal.decreases-reading
decreases-reading l = length l.bytes - l.at
