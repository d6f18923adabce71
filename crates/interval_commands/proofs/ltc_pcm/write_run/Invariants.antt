use Rattle.std.proofs.Common.{◌≡◌, ◌≤◌, ◌-◌, ℤ, replicate}
use Rattle.pcm_front.specs.Samples.{bytes_of}
use Rattle.interval_commands.proofs.ltc_pcm.write_run.Given as goal

-- the samples so far were written
abbrev pub invariant-runs : goal.invariant-runs
invariant-runs g l = record {
  within : l.rest ≤ l.fn.samples;
  put : (sample : ℤ) → l.fn.run.items ≡ bytes_of (replicate 512 sample)
      → g.O.Output.given l.fn.out l.out (bytes_of (replicate (l.fn.samples - l.rest) sample));
}

abbrev pub decreases-runs : goal.decreases-runs
decreases-runs g l = l.rest
