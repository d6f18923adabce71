use Rattle.std.proofs.Common.{◌≡◌, ◌≤◌, ◌<◌, length, take, drop, ◌-◌}
use Rattle.tape_reader.specs.Tape.{settings_of}
use Rattle.tc_c.specs.Write.{room_of, TapeGoes}
use Rattle.tc_c.proofs.tape_write.write_tape.Given as goal

abbrev pub invariant-writing : goal.invariant-writing
invariant-writing l = record {
  at : l.at ≤ length l.intervals;
  made : l.made ≤ length l.events;
  settings : settings_of l.tape ≡ settings_of l.fn.tape;
  goes : TapeGoes l.fn.tape l.tape (take l.at l.intervals) (take l.made l.events);
  few : length l.fn.events < room_of l.fn.tape → (l.at ≡ 0) × (l.made ≡ 0) × (l.tape ≡ l.fn.tape);
  rest : drop l.made l.events ≡ drop l.made l.fn.events;
}

abbrev pub decreases-writing : goal.decreases-writing
decreases-writing l = length l.events - l.made
