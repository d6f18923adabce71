use Rattle.std.proofs.Common.{◌≡◌, ◌-◌, ◌≤◌, ◌<◌, length, take, drop}
use Rattle.sound_reader.specs.Slicer.{Gives, IsSettled}
use Rattle.sound_reader.proofs.slicer.SoundSlicer.write.Given as goal

abbrev pub invariant-writing : goal.invariant-writing
invariant-writing l = record {
  at : l.at ≤ length l.samples;
  made : l.made ≤ length l.ticks;
  settings : l.self.settings ≡ l.fn.self.settings;
  few : length l.fn.ticks ≡ 0 → (l.at ≡ 0) × (l.self ≡ l.fn.self);
  settled : l.made < length l.ticks → IsSettled l.self;
  goes : Gives l.fn.self l.self (take l.at l.samples) (take l.made l.ticks);
  rest : drop l.made l.ticks ≡ drop l.made l.fn.ticks;
}

abbrev pub decreases-writing : goal.decreases-writing
decreases-writing l = length l.samples - l.at
