-- Sound out, and in again: what `ltc-pcm` makes of a recording, `pcm-ltc` slices into its intervals, and `wav-ltc` too,
-- as a sound file has it.
use Rattle.std.specs.Prelude.{◌≡◌, ℕ, ◌*◌, ◌≤◌, false, List, ◌++◌, length, map, Some}
use Rattle.std.specs.List.{flat_map}
use Rattle.pcm_front.specs.declared.threshold.Threshold.TheVariants.{Fixed, Follow}
use Rattle.pcm_front.specs.Distance.{distances, pieces_of}
use Rattle.pcm_front.specs.Samples.{samples_of}
use Rattle.interval_file.specs.declared.header.IntervalHeader.{IntervalHeader}
use Rattle.interval_file.specs.Grammar.{file_of}
use Rattle.interval_file.specs.Recording.{recording_of}
use Rattle.tc_job.specs.declared.job.Job.TheVariants.{PcmLtc, WavLtc}
use Rattle.tc_job.specs.Slicing.{Slices}
use Rattle.tc_job.specs.WaveSlicing.{SlicesWave}
use Rattle.wave_file.specs.declared.format.WaveFormat.{WaveFormat}
use Rattle.wave_file.specs.Wave.{reading_of}
use Rattle.tc_top.specs.Commands.{meaning_of}
use Rattle.tc_command.specs.Meaning.{Meaning, IsInput}
use Rattle.signal_commands.specs.PcmLtc.{sliced_header}
use Rattle.signal_commands.specs.WavLtc.{track_header}
use Rattle.signal_commands.specs.WavLtc.{asked_by}

-- each interval, `fineness` times as long
abbrev pub times : ℕ → List ℕ → List ℕ
times fineness intervals = map (λ interval. fineness * interval) intervals

-- `pcm-ltc` takes the sound whole, each sample for itself, at a fixed threshold of at most the level of the samples,
-- and writes each distance when it has ended: this
pub record SlicesTo (level : ℕ) (slicing : Slices) (sound written : List ℕ) : Type 0 where
  pub threshold : ℕ
  pub alone : slicing.smooth ≡ 1
  pub ended : slicing.live ≡ false
  pub fixed : slicing.threshold ≡ Fixed threshold
  pub some : 1 ≤ threshold
  pub most : threshold ≤ level
  pub input : IsInput (meaning_of (PcmLtc slicing)) sound
  pub output : Meaning.output (meaning_of (PcmLtc slicing)) sound written

-- `wav-ltc` takes a sound file whose track has the samples of the sound, each for itself, at a threshold that follows
-- the level and is at least half of the level of the samples, and writes each distance when it has ended: this
pub record SlicesFileTo (level : ℕ) (w : SlicesWave) (format : WaveFormat) (sound bytes written : List ℕ) : Type 0 where
  pub least : ℕ
  pub alone : w.smooth ≡ 1
  pub ended : w.live ≡ false
  pub follows : w.threshold ≡ Follow least
  pub some : 1 ≤ least
  pub most : least ≤ level
  pub half : level ≤ 2 * least
  pub begins : (reading_of (asked_by w) bytes).format ≡ Some format
  pub samples : (reading_of (asked_by w) bytes).samples ≡ samples_of sound
  pub output : Meaning.output (meaning_of (WavLtc w)) bytes written

-- the intervals of a sound file, 16 times as long as those of the recording, come after the distance to its first
-- crossing
abbrev pub IsBehindTheFirst : IntervalHeader → List ℕ → List ℕ → Type 0
IsBehindTheFirst header intervals written = (first : List ℕ) × (length first ≤ 1)
    × (written ≡ file_of header (flat_map pieces_of first ++ flat_map pieces_of (times 16 intervals)))

-- at each fixed threshold of at most the level, and at each fineness, the distances of the crossings of the
-- sound are the intervals of the recording, times the fineness. So `pcm-ltc` writes the file of these distances, and in
-- whole samples that of the intervals themselves; and so does `wav-ltc` of a sound file of these samples, after the
-- first interval
pub record IsSlicedAgain (level : ℕ) (bytes sound : List ℕ) : Type 0 where
  pub apart : (fineness threshold : ℕ) → 1 ≤ threshold → threshold ≤ level
      → distances fineness (Fixed threshold) (samples_of sound) ≡ times fineness (recording_of bytes).intervals
  pub finer : (slicing : Slices) (again : List ℕ) → SlicesTo level slicing sound again
      → again ≡ file_of (sliced_header slicing)
      (flat_map pieces_of (times slicing.fineness (recording_of bytes).intervals))
  pub whole : (slicing : Slices) (again : List ℕ) → SlicesTo level slicing sound again → slicing.fineness ≡ 1
      → again ≡ file_of (sliced_header slicing) (recording_of bytes).intervals
  pub in_a_file : (w : SlicesWave) (format : WaveFormat) (file again : List ℕ)
      → SlicesFileTo level w format sound file again
      → IsBehindTheFirst (track_header w format) (recording_of bytes).intervals again
