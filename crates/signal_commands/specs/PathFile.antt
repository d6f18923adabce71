-- What is written of a best path is a file that is read: each of its intervals is one that a file can say.
use Rattle.std.specs.Prelude.{◌≡◌, ℕ, ◌≤◌, ℤ, List, length, reverse, Some, None}
use Rattle.interval_file.specs.Grammar.{IsFile}
use Rattle.interval_file.specs.Recording.{end_fault_of, recording_of}
use Rattle.limits.specs.declared.recording.TheConstants.{MAX_INTERVALS}
use Rattle.path_front.specs.Front.{AreIntervals}
use Rattle.pcm_front.specs.Samples.{samples_of}
use Rattle.tc_io.specs.Verdict.{good}
use Rattle.tc_job.specs.PathSlicing.{SlicesPath}
use Rattle.tc_job.specs.TrackPath.{sound_of, SlicesTrackPath}
use Rattle.wave_file.specs.declared.format.WaveFormat.{WaveFormat}
use Rattle.wave_file.specs.Wave.{reading_of}
use Rattle.signal_commands.specs.PcmPath.{path_header}
use Rattle.signal_commands.specs.WavPath.{asked_for_path}

-- what was written is the file of the intervals of the best path of samples, each of 1 tick or more and none too long,
-- and if a recording may have so many, a reader reads these
pub record IsReadAsAFile (p : SlicesPath) (samples : List ℤ) (written : List ℕ) : Type 0 where
  pub intervals : List ℕ
  pub are : AreIntervals p.grid p.ticks p.least (reverse samples) intervals
  pub file : IsFile written (path_header p) intervals
  pub read : length intervals ≤ MAX_INTERVALS
      → (recording_of written ≡ record { header = Some (path_header p); intervals = intervals; verdict = good })
      × (end_fault_of written ≡ None)

-- of raw samples
abbrev pub IsPathRead : SlicesPath → List ℕ → List ℕ → Type 0
IsPathRead p bytes written = IsReadAsAFile p (samples_of bytes) written

-- of the track of a sound file, once its format is known
abbrev pub IsTrackPathRead : SlicesTrackPath → List ℕ → List ℕ → Type 0
IsTrackPathRead t bytes written =
    let r = reading_of (asked_for_path t) bytes in
    (format : WaveFormat) → r.format ≡ Some format
    → (p : SlicesPath) × (sound_of t format.rate ≡ Some p) × IsReadAsAFile p r.samples written
