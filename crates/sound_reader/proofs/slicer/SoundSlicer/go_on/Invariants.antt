use Rattle.std.proofs.Common.{◌≡◌, ◌-◌, ◌≤◌, ◌++◌, ℕ, ℤ, List, length, take, drop}
use Rattle.sound_reader.specs.Slicer.{StandsFor}
use Rattle.sound_reader.proofs.slicer.SoundSlicer.go_on.Given as goal

abbrev pub invariant-waiting : goal.invariant-waiting
invariant-waiting l = record {
  least : l.fn.made ≤ l.at;
  most : l.at ≤ length l.ticks;
  settings : l.self.settings ≡ l.fn.self.settings;
  few : length l.fn.ticks ≡ l.fn.made → l.self ≡ l.fn.self;
  writes : (front : List ℤ) (given : List ℕ) → StandsFor l.fn.self front (given ++ take l.fn.made l.fn.ticks)
      → StandsFor l.self front (given ++ take l.at l.ticks);
  rest : drop l.at l.ticks ≡ drop l.at l.fn.ticks;
}

abbrev pub decreases-waiting : goal.decreases-waiting
decreases-waiting l = length l.ticks - l.at
