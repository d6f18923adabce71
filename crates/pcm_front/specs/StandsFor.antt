-- Which samples a slicer stands for, without keeping them.
use Rattle.std.specs.Prelude.{◌≡◌, ℕ, ◌+◌, ◌-◌, ◌*◌, ℤ, pos, List, ◌++◌, length, replicate}
use Rattle.std.specs.Option.{option_map}
use Rattle.pcm_front.specs.declared.level.Level.{Level}
use Rattle.pcm_front.specs.declared.slicer.Slicer.{Slicer}
use Rattle.pcm_front.specs.declared.threshold.Threshold.{Threshold}
use Rattle.pcm_front.specs.declared.threshold.Threshold.TheVariants.{Fixed, Follow, Deep}
use Rattle.pcm_front.specs.Crossing.{moments}
use Rattle.pcm_front.specs.Distance.{distances_since, latest_moment}
use Rattle.pcm_front.specs.Level.{level_of}
use Rattle.pcm_front.specs.Pace.{ticks_since}
use Rattle.pcm_front.specs.Settings.{Settings}
use Rattle.pcm_front.specs.Side.{sample_at, side_after}
use Rattle.pcm_front.specs.State.{FinderState, WindowState}
use Rattle.pcm_front.specs.Sums.{latest, sums}

-- the level is that of the samples, where the threshold follows it
abbrev pub IsLevelFor : Threshold → Level → List ℤ → Type 0
IsLevelFor (Fixed threshold) level samples = Unit {0}
IsLevelFor (Follow least) level samples = level ≡ level_of samples
IsLevelFor (Deep least) level samples = level ≡ level_of samples

-- crossings are found as after these samples
pub record Finds (finder : FinderState) (samples : List ℤ) : Type 0 where
  pub tick : finder.tick ≡ finder.fineness * length samples
  pub before : finder.before ≡ sample_at samples (length samples - 1)
  pub level : IsLevelFor finder.threshold finder.level samples
  pub side : finder.side ≡ side_after finder.threshold samples (length samples)
  pub latest : finder.latest ≡ option_map (λ moment. moment + finder.fineness)
      (latest_moment finder.start (moments finder.fineness finder.threshold samples))

-- the distances of the sums of samples, as both together find them
abbrev pub distances_in : FinderState → WindowState → List ℤ → List ℕ
distances_in finder window samples =
    distances_since finder.start finder.fineness finder.threshold (sums window.smooth samples)

-- both together answer as after these samples: crossings are found in their sums
pub record Stand (finder : FinderState) (window : WindowState) (samples : List ℤ) : Type 0 where
  pub kept : window.kept ≡ latest (window.smooth - 1) (replicate window.smooth (pos 0) ++ samples)
  pub finds : Finds finder (sums window.smooth samples)

-- the slicer answers as one that was given these samples
abbrev pub StandsFor : Slicer → List ℤ → Type 0
StandsFor slicer samples = Stand slicer.finder slicer.window samples

-- how it slices
abbrev pub settings_of : Slicer → Settings
settings_of slicer = record {
  fineness = slicer.finder.fineness;
  threshold = slicer.finder.threshold;
  smooth = slicer.window.smooth;
  start = slicer.finder.start;
}

-- the ticks of the samples so far
abbrev pub tick_of : Slicer → ℕ
tick_of slicer = slicer.finder.tick

-- the ticks that have passed since the moment from which the next distance runs
abbrev pub passed_in : FinderState → ℕ
passed_in finder = ticks_since finder.latest finder.tick

-- the ticks that have passed since the moment from which the next distance runs
abbrev pub passed_of : Slicer → ℕ
passed_of slicer = passed_in slicer.finder
