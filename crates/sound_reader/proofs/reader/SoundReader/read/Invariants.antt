use Rattle.std.proofs.Common.{◌≡◌, ◌≤◌, ◌-◌, [], false, length, take}
use Rattle.sound_reader.specs.Sound.{is_full, Brings, IsSettled}
use Rattle.sound_reader.proofs.reader.SoundReader.read.Given as goal

abbrev pub invariant-reading : goal.invariant-reading
invariant-reading l = record {
  at : l.at ≤ length l.samples;
  settings : l.self.settings ≡ l.fn.self.settings;
  brings : Brings l.fn.self l.self (take l.at l.samples) [];
  settled : is_full l.self ≡ false → IsSettled l.self;
}

abbrev pub decreases-reading : goal.decreases-reading
decreases-reading l = length l.samples - l.at
