use Rattle.std.proofs.Common.{◌-◌, ◌≤◌, None, take, length}
use Rattle.pcm_front.specs.KeptRuns.{RunsTo}
use Rattle.pcm_front.specs.StandsFor.{passed_of}
use Rattle.pcm_front.proofs.slicer.Slicer.up_to_distance.Given as goal

-- the samples so far were taken, and brought nothing
abbrev pub invariant-samples : goal.invariant-samples
invariant-samples g l = record {
  within : l.at ≤ length (g.S.Samples.list l.samples);
  passed : passed_of l.fn.self ≤ passed_of l.self;
  runs : RunsTo l.fn.self.finder l.self.finder l.fn.self.window l.self.window (take l.at (g.S.Samples.list l.samples))
      None;
}

abbrev pub decreases-samples : goal.decreases-samples
decreases-samples g l = length (g.S.Samples.list l.samples) - l.at
