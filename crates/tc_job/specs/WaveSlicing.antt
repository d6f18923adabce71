-- What the words say of a sound file that is to be sliced.
use Rattle.std.specs.Prelude.{ℕ, ◌≤◌, Bool}
use Rattle.pcm_front.specs.declared.threshold.Threshold.{Threshold}
use Rattle.pcm_front.specs.declared.window.TheConstants.{MAX_SMOOTH}
use Rattle.pcm_front.specs.State.{IsThreshold}
use Rattle.tc_address.specs.declared.system.System.{System}
use Rattle.limits.specs.declared.sound_file.TheConstants.{MAX_TRACKS}

-- time code of a system, in a track, at a threshold of sums; how many samples a sum has; and whether its distances are
-- written as they pass
pub record SlicesWave : Type 0 where
  pub system : System
  pub track : ℕ
  pub threshold : Threshold
  pub smooth : ℕ
  pub live : Bool

-- a track that is to be sliced, by its values
abbrev pub wave_slicing_of : System → ℕ → Threshold → ℕ → Bool → SlicesWave
wave_slicing_of system track threshold smooth live = record {
  system = system;
  track = track;
  threshold = threshold;
  smooth = smooth;
  live = live;
}

-- a track that a file can have, and sums of some samples and not too many
pub record IsWaveSlicing (s : SlicesWave) : Type 0 where
  pub some_track : 1 ≤ s.track
  pub not_too_many : s.track ≤ MAX_TRACKS
  pub threshold : IsThreshold s.threshold
  pub some_in_sum : 1 ≤ s.smooth
  pub most_in_sum : s.smooth ≤ MAX_SMOOTH
