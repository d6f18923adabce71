use Rattle.std.proofs.Common.{◌≡◌, ◌-◌, ◌≤◌, length}
use Rattle.pcm_front.specs.KeptRuns.{PassesTo}
use Rattle.pcm_front.specs.Level.{IsInRange, IsSum}
use Rattle.pcm_front.specs.State.{window_of, IsRing}
use Rattle.pcm_front.proofs.still.pass_ring.Given as goal

-- the samples so far were passed over
abbrev pub invariant-samples : goal.invariant-samples
invariant-samples g l = record {
  order : l.fn.from.end ≤ l.passed.end;
  within : l.passed.end ≤ length (g.S.Samples.list l.samples);
  before : IsSum l.passed.before;
  level : IsInRange l.passed.level;
  smooth : l.now.smooth ≡ l.fn.turn.smooth;
  ring : IsRing l.now.smooth l.ring l.now.oldest l.now.sum;
  passes : PassesTo l.side l.threshold (g.S.Samples.list l.samples) l.fn.from l.passed
      (window_of l.fn.turn.smooth l.fn.ring l.fn.turn.oldest)
      (window_of l.now.smooth l.ring l.now.oldest);
}

abbrev pub decreases-samples : goal.decreases-samples
decreases-samples g l = length (g.S.Samples.list l.samples) - l.passed.end
