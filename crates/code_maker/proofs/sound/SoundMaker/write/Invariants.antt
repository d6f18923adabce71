use Rattle.std.proofs.Common.{◌≡◌, ◌-◌, ◌≤◌, ◌<◌, ◌++◌, ℕ, ℤ, List, length, take, drop}
use Rattle.code_maker.specs.Sound.{StandsFor}
use Rattle.code_maker.proofs.sound.SoundMaker.write.Given as goal

abbrev pub invariant-writing : goal.invariant-writing
invariant-writing l = record {
  at : l.at ≤ length l.ticks;
  made : l.made ≤ length l.samples;
  level : l.self.level ≡ l.fn.self.level;
  few : length l.fn.samples ≡ 0 → (l.at ≡ 0) × (l.self ≡ l.fn.self);
  done : l.made < length l.samples → l.self.rest ≡ 0;
  goes : (front : List ℕ) (given : List ℤ) → StandsFor l.fn.self front given
      → StandsFor l.self (front ++ take l.at l.ticks) (given ++ take l.made l.samples);
  rest : drop l.made l.samples ≡ drop l.made l.fn.samples;
}

abbrev pub decreases-writing : goal.decreases-writing
decreases-writing l = length l.ticks - l.at
