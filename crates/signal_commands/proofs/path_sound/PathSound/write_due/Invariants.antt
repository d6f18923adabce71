use Rattle.std.proofs.Common.{◌≡◌, ◌++◌, ℤ, ℕ, List}
use Rattle.interval_file.specs.declared.header.FileVersion.TheVariants.{One}
use Rattle.interval_file.specs.Grammar.{intervals_bytes}
use Rattle.path_front.specs.Front.{intervals_left, FrontStandsFor, GoesOn}
use Rattle.signal_commands.proofs.path_sound.PathSound.write_due.Given as goal

abbrev pub invariant-due : goal.invariant-due
invariant-due g l = record {
  given : (samples : List ℤ) (given : List ℕ) → FrontStandsFor l.initial.self.front samples given
      → (more : List ℕ) × g.O.Output.given l.initial.out l.out (intervals_bytes One more)
      × FrontStandsFor l.self.front samples (given ++ more);
  goes : GoesOn l.initial.self.front l.self.front;
  path : l.self.path ≡ l.initial.self.path;
}

abbrev pub decreases-due : goal.decreases-due
decreases-due g l = intervals_left l.self.front
