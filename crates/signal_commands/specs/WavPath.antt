-- `wav-ltc .. path`: a track of a sound file, as an interval file of the cells of the best path through it. A sixteenth
-- of each tick is a place in the file, and time passes in cells through silence too.
use Rattle.std.specs.Prelude.{◌≡◌, ℕ, true, ℤ, List, [], Option, Some, None}
use Rattle.std.specs.Option.{option_map}
use Rattle.tc_command.specs.declared.input_fault.InputFault.TheVariants.{Sound}
use Rattle.tc_command.specs.Meaning.{Meaning}
use Rattle.tc_command.specs.Told.{Told, told_by_meaning}
use Rattle.tc_io.specs.Verdict.{verdict_as}
use Rattle.tc_job.specs.PathSlicing.{SlicesPath}
use Rattle.tc_job.specs.TrackPath.{least_rate_of, sound_of, SlicesTrackPath}
use Rattle.wave_file.specs.declared.format.Asked.{Asked}
use Rattle.wave_file.specs.declared.format.WaveFormat.{WaveFormat}
use Rattle.wave_file.specs.Wave.{end_fault_of, reading_of}
use Rattle.signal_commands.specs.declared.wav_path.TheConstants.{MAX_PATH_SAMPLES}
use Rattle.signal_commands.specs.PcmPath.{IsPathFile, IsPathFileSoFar}

-- of a sound file its track is asked, at the least rate at which a path can be looked for: a lower one is a fault of
-- the
-- file, at the place of its rate
abbrev pub asked_for_path : SlicesTrackPath → Asked
asked_for_path t = record {
  track = t.track;
  least_rate = least_rate_of t.system;
  most_samples = MAX_PATH_SAMPLES;
}

-- what `pcm-ltc .. path` writes of the samples of the track, of as many samples a second as the file, with 16 ticks a
-- sample
pub record IsTrackPathFile (t : SlicesTrackPath) (format : WaveFormat) (samples : List ℤ) (written : List ℕ)
    : Type 0 where
  pub path : SlicesPath
  pub sound : sound_of t format.rate ≡ Some path
  pub file : IsPathFile path samples written

-- and what it writes of them before their end
pub record IsTrackPathSoFar (t : SlicesTrackPath) (format : WaveFormat) (samples : List ℤ) (written : List ℕ)
    : Type 0 where
  pub path : SlicesPath
  pub sound : sound_of t format.rate ≡ Some path
  pub file : IsPathFileSoFar path samples written

-- before the data begin nothing is written
abbrev pub WritesPath : SlicesTrackPath → Option WaveFormat → List ℤ → List ℕ → Type 0
WritesPath t None samples written = written ≡ []
WritesPath t (Some format) samples written = IsTrackPathFile t format samples written

-- what is written before the end: nothing before the format is known
abbrev pub WritesPathSoFar : SlicesTrackPath → Option WaveFormat → List ℤ → List ℕ → Type 0
WritesPathSoFar t None samples written = written ≡ []
WritesPathSoFar t (Some format) samples written = IsTrackPathSoFar t format samples written

-- what it takes and what it writes: the header stands where the data begin
abbrev pub along_track_path : SlicesTrackPath → Meaning
along_track_path t = record {
  reads = true;
  verdict = λ bytes. verdict_as Sound (reading_of (asked_for_path t) bytes).verdict;
  end_fault = λ bytes. option_map Sound (end_fault_of (asked_for_path t) bytes);
  spent = λ bytes. ⊥;
  part = λ bytes written.
      let r = reading_of (asked_for_path t) bytes in WritesPathSoFar t r.format r.samples written;
  output = λ bytes written. let r = reading_of (asked_for_path t) bytes in WritesPath t r.format r.samples written;
}

-- what is told of it
abbrev pub told_wav_path : SlicesTrackPath → Told
told_wav_path t = told_by_meaning (along_track_path t)
