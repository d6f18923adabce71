use Rattle.std.proofs.Common.{◌≡◌, ◌≤◌, ◌-◌, [], length, take, drop, false}
use Rattle.frame_wheel.specs.Wheel.{MayTell}
use Rattle.tc_c.specs.Write.{WheelGoes}
use Rattle.tc_c.proofs.wheel_write.pass.Given as goal

abbrev pub invariant-passing : goal.invariant-passing
invariant-passing l = record {
  made : l.made ≤ length l.frames;
  limit : l.wheel.wheel.limit ≡ l.fn.wheel.wheel.limit;
  may : MayTell l.wheel l.tick;
  told : 1 ≤ l.made → l.wheel.tick ≡ l.tick;
  goes : WheelGoes l.fn.wheel l.wheel [] false (take l.made l.frames);
  few : length l.fn.frames ≡ 0 → l.wheel ≡ l.fn.wheel;
  rest : drop l.made l.frames ≡ drop l.made l.fn.frames;
}

abbrev pub decreases-passing : goal.decreases-passing
decreases-passing l = length l.frames - l.made
