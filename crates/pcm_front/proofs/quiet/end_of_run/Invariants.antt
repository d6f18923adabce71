use Rattle.std.proofs.Common.{◌≡◌, ◌+◌, ◌-◌, ◌≤◌, length}
use Rattle.pcm_front.specs.Quiet.{run_from}
use Rattle.pcm_front.proofs.quiet.end_of_run.Given as goal

-- the run goes on to this place
abbrev pub invariant-many : goal.invariant-many
invariant-many g l = record {
  within : l.end ≤ length (g.S.Samples.list l.samples);
  so_far : l.at + run_from l.band (g.S.Samples.list l.samples) l.at ≡ l.end + run_from l.band
      (g.S.Samples.list l.samples) l.end;
}

abbrev pub decreases-many : goal.decreases-many
decreases-many g l = length (g.S.Samples.list l.samples) - l.end

abbrev pub invariant-each : goal.invariant-each
invariant-each g l = record {
  within : l.end ≤ length (g.S.Samples.list l.samples);
  so_far : l.at + run_from l.band (g.S.Samples.list l.samples) l.at ≡ l.end + run_from l.band
      (g.S.Samples.list l.samples) l.end;
}

abbrev pub decreases-each : goal.decreases-each
decreases-each g l = length (g.S.Samples.list l.samples) - l.end
