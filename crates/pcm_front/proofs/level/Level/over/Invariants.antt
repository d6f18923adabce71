use Rattle.std.proofs.Common.{◌≡◌, ◌-◌, ◌≤◌}
use Rattle.std.specs.List.{fold}
use Rattle.std.specs.Prelude.{slice_range}
use Rattle.pcm_front.specs.Level.{level_after}
use Rattle.pcm_front.specs.Sizes.{lowered, IsRaised}
use Rattle.pcm_front.proofs.level.Level.over.Given as goal

-- the level after the samples so far, which stands higher
abbrev pub invariant-many : goal.invariant-many
invariant-many g l = record {
  range : IsRaised l.level;
  order : l.at ≤ l.place;
  within : l.place ≤ l.end;
  so_far : lowered l.level ≡ fold level_after l.fn.self (slice_range (g.S.Samples.list l.samples) l.at l.place);
}

abbrev pub decreases-many : goal.decreases-many
decreases-many g l = l.end - l.place

abbrev pub invariant-each : goal.invariant-each
invariant-each g l = record {
  range : IsRaised l.level;
  order : l.at ≤ l.place;
  within : l.place ≤ l.end;
  so_far : lowered l.level ≡ fold level_after l.fn.self (slice_range (g.S.Samples.list l.samples) l.at l.place);
}

abbrev pub decreases-each : goal.decreases-each
decreases-each g l = l.end - l.place
