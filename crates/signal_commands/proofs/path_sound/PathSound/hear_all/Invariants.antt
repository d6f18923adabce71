use Rattle.std.proofs.Common.{◌≡◌, ◌+◌, ◌++◌, ℕ, ℤ, List, take}
use Rattle.signal_commands.specs.KeptPath.{samples_heard, HearsSamples, IsGoing}
use Rattle.signal_commands.proofs.path_sound.PathSound.hear_all.Given as goal

-- the samples before a place were heard
abbrev pub invariant-samples : goal.invariant-samples
invariant-samples g l = record {
  going : IsGoing l.self;
  path : l.self.path ≡ l.fn.self.path;
  count : samples_heard l.self ≡ samples_heard l.fn.self + l.at;
  works : (before : List ℤ) (written : List ℕ) → HearsSamples l.fn.self before written
      → (more : List ℕ) × g.O.Output.given l.fn.out l.out more
      × HearsSamples l.self (before ++ take l.at l.samples) (written ++ more);
}
