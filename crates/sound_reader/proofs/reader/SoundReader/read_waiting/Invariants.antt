use Rattle.std.proofs.Common.{◌≡◌, []}
use Rattle.sound_reader.specs.Sound.{Brings}
use Rattle.sound_reader.specs.Waiting.{count_of}
use Rattle.sound_reader.proofs.reader.SoundReader.read_waiting.Given as goal

abbrev pub invariant-waiting : goal.invariant-waiting
invariant-waiting l = record {
  rest : l.self ≡ record l.fn.self { reader = l.self.reader; waiting = l.self.waiting };
  brings : Brings l.fn.self l.self [] [];
}

abbrev pub decreases-waiting : goal.decreases-waiting
decreases-waiting l = count_of l.self.waiting
