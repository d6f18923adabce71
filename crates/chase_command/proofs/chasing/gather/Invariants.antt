use Rattle.std.proofs.Common.{◌≡◌, ◌+◌, ◌-◌, ◌≤◌, length, vec_capacity}
use Rattle.std.specs.Io.KnownBytes.{Consumes}
use Rattle.chase_command.specs.declared.chasing.TheConstants.{MAX_SCRIPT}
use Rattle.chase_command.proofs.chasing.gather.Given as goal

-- what was pulled is in memory, and is no longer than a script may be
abbrev pub invariant-pulls : goal.invariant-pulls
invariant-pulls g l = record {
  short : length l.script.items ≤ MAX_SCRIPT;
  room : MAX_SCRIPT + 1 ≤ vec_capacity l.script;
  pulled : Consumes (g.S.Source.left l.fn.source) (g.S.Source.left l.source) l.script.items;
  open_end : g.S.Source.ends l.fn.source ≡ 0 → g.S.Source.ends l.source ≡ 0;
  same : g.S.Source.faults l.source ≡ g.S.Source.faults l.fn.source;
}

abbrev pub decreases-pulls : goal.decreases-pulls
decreases-pulls g l = MAX_SCRIPT + 1 - length l.script.items
