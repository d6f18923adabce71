-- What a slicer of sound keeps, and which samples it stands for, with which intervals.
use Rattle.std.specs.Prelude.{◌≡◌, ℕ, ℤ, ◌*◌, ◌≤◌, nat_le, Bool, List, [], ◌++◌}
use Rattle.pcm_front.specs.declared.interval.Intervals.{Intervals}
use Rattle.pcm_front.specs.declared.slicer.Slicer.{Slicer}
use Rattle.pcm_front.specs.declared.window.TheConstants.{MAX_SMOOTH}
use Rattle.pcm_front.specs.Pace.{intervals_at, intervals_in, IsPace}
use Rattle.pcm_front.specs.Settings.{Settings}
use Rattle.pcm_front.specs.StandsFor as pcm
use Rattle.pcm_front.specs.State.{IsThreshold}
use Rattle.sound_reader.specs.declared.reader.TheConstants.{MAX_SAMPLES}
use Rattle.sound_reader.specs.declared.slicer_settings.SlicerSettings.{SlicerSettings}
use Rattle.sound_reader.specs.Waiting.{AreIntervals}

-- each of them is in its range
pub record CanSlice (s : SlicerSettings) : Type 0 where
  pub threshold : IsThreshold s.threshold
  pub fineness : (1 ≤ s.fineness) × (s.fineness ≤ 64)
  pub smooth : (1 ≤ s.smooth) × (s.smooth ≤ MAX_SMOOTH)
  pub pace : IsPace s.pace

-- how the samples are sliced
abbrev pub sliced_as : SlicerSettings → Settings
sliced_as s = record { fineness = s.fineness; threshold = s.threshold; smooth = s.smooth; start = s.start }

-- the intervals of samples, under these settings
abbrev pub intervals_of : SlicerSettings → List ℤ → List ℕ
intervals_of s samples = intervals_at s.pace (sliced_as s) samples

-- what is kept: how it slices, how far it is, how many samples were taken, and the intervals that are found and not
-- given yet
pub record SlicerState : Type 0 where
  pub settings : SlicerSettings
  pub slicer : Slicer
  pub samples : ℕ
  pub waiting : Intervals

-- the numbers fit each other, and what waits are intervals
pub record IsKept (s : SlicerState) : Type 0 where
  pub range : CanSlice s.settings
  pub slices : pcm.settings_of s.slicer ≡ sliced_as s.settings
  pub tick : pcm.tick_of s.slicer ≡ s.settings.fineness * s.samples
  pub few : s.samples ≤ MAX_SAMPLES
  pub waiting : AreIntervals s.waiting

-- it was given these samples, and has given these intervals: those of the samples, but for those that wait
pub record StandsFor (s : SlicerState) (samples : List ℤ) (given : List ℕ) : Type 0 where
  pub sliced : pcm.StandsFor s.slicer samples
  pub all : given ++ intervals_in s.waiting ≡ intervals_of s.settings samples

-- no interval waits
abbrev pub IsSettled : SlicerState → Type 0
IsSettled s = intervals_in s.waiting ≡ []

-- it takes no more samples
abbrev pub is_full : SlicerState → Bool
is_full s = nat_le MAX_SAMPLES s.samples

-- from one state to a later one: it was given these samples more, and gave these intervals more
abbrev pub Gives : SlicerState → SlicerState → List ℤ → List ℕ → Type 0
Gives old new samples own = (front : List ℤ) (given : List ℕ) → StandsFor old front given
    → StandsFor new (front ++ samples) (given ++ own)
