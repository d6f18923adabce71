use Rattle.std.proofs.Common.{◌≡◌, ◌≤◌, ◌<◌, length, take, drop, ◌-◌}
use Rattle.tc_c.specs.Write.{Goes}
use Rattle.tc_c.proofs.write.write.Given as goal

abbrev pub invariant-writing : goal.invariant-writing
invariant-writing l = record {
  at : l.at ≤ length l.samples;
  made : l.made ≤ length l.events;
  settings : l.reader.settings ≡ l.fn.reader.settings;
  goes : Goes l.fn.reader l.reader (take l.at l.samples) (take l.made l.events);
  few : length l.fn.events < 2 → (l.at ≡ 0) × (l.made ≡ 0) × (l.reader ≡ l.fn.reader);
  rest : drop l.made l.events ≡ drop l.made l.fn.events;
}

abbrev pub decreases-writing : goal.decreases-writing
decreases-writing l = length l.events - l.made
