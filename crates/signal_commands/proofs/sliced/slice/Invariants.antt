use Rattle.std.proofs.Common.{◌≡◌, ◌+◌, ◌-◌, ◌*◌, ◌≤◌, ◌++◌, ℕ, ℤ, List, take, length}
use Rattle.pcm_front.specs.StandsFor as pcm
use Rattle.pcm_front.specs.StandsFor.{settings_of, tick_of}
use Rattle.signal_commands.specs.KeptSliced.{AreDue}
use Rattle.signal_commands.proofs.sliced.slice.Given as goal

-- the samples before a place were sliced, and what they bring was written
abbrev pub invariant-samples : goal.invariant-samples
invariant-samples g l = record {
  within : l.at ≤ length l.samples;
  settings : settings_of l.slicer ≡ settings_of l.fn.slicer;
  tick : tick_of l.slicer ≡ tick_of l.fn.slicer + (settings_of l.fn.slicer).fineness * l.at;
  stands : (front : List ℤ) → pcm.StandsFor l.fn.slicer front → pcm.StandsFor l.slicer (front ++ take l.at l.samples);
  put : (front : List ℤ) → pcm.StandsFor l.fn.slicer front → (due : List ℕ)
      × AreDue l.fn.pace (settings_of l.fn.slicer) front (take l.at l.samples) due
      × g.O.Output.given l.fn.out l.out due;
}

abbrev pub decreases-samples : goal.decreases-samples
decreases-samples g l = length l.samples - l.at
