-- How a sound is read, in range, and how it is sliced.
use Rattle.std.specs.Prelude.{◌≤◌}
use Rattle.pcm_front.specs.declared.window.TheConstants.{MAX_SMOOTH}
use Rattle.pcm_front.specs.Pace.{IsPace}
use Rattle.pcm_front.specs.Settings.{from_start, Settings}
use Rattle.pcm_front.specs.State.{IsThreshold}
use Rattle.sound_reader.specs.declared.settings.SoundSettings.{SoundSettings}

-- each of them is in its range
pub record AreInRange (s : SoundSettings) : Type 0 where
  pub threshold : IsThreshold s.threshold
  pub fineness : (1 ≤ s.fineness) × (s.fineness ≤ 64)
  pub smooth : (1 ≤ s.smooth) × (s.smooth ≤ MAX_SMOOTH)
  pub pace : IsPace s.pace

-- how the samples are sliced: the first distance runs from the first sample
abbrev pub slicing : SoundSettings → Settings
slicing s = from_start s.fineness s.threshold s.smooth
