-- `wav-ltc`: a track of a sound file, as an interval file of the distances of its crossings. The first one runs from
-- the place of the first sample, so that a sixteenth of each tick is a place in the file.
use Rattle.std.specs.Prelude.{◌≡◌, ℕ, ◌*◌, true, false, ℤ, List, [], Option, Some, None}
use Rattle.std.specs.Option.{option_map}
use Rattle.pcm_front.specs.declared.pace.Pace.{Pace}
use Rattle.pcm_front.specs.declared.pace.Pace.TheVariants.{Ended, Passing}
use Rattle.pcm_front.specs.Covered.{TellTheCrossings}
use Rattle.pcm_front.specs.Pace.{intervals_at}
use Rattle.pcm_front.specs.Settings.{Settings, from_start}
use Rattle.tc_command.specs.declared.input_fault.InputFault.TheVariants.{Sound}
use Rattle.interval_file.specs.declared.header.FileVersion.TheVariants.{One}
use Rattle.interval_file.specs.declared.header.IntervalHeader.{IntervalHeader}
use Rattle.interval_file.specs.Grammar.{file_of}
use Rattle.tc_job.specs.Pace.{pace_of, quarter_frame}
use Rattle.tc_job.specs.WaveSlicing.{SlicesWave}
use Rattle.wave_file.specs.declared.format.WaveFormat.{WaveFormat}
use Rattle.wave_file.specs.Grammar.{IsMadeOf, Sample}
use Rattle.wave_file.specs.Grammar.{track_of as samples_in}
use Rattle.wave_file.specs.Wave.{end_fault_of, reading_of}
use Rattle.tc_io.specs.Verdict.{verdict_as}
use Rattle.tc_command.specs.Meaning.{Meaning}
use Rattle.tc_command.specs.Told.{Told}
use Rattle.wave_file.specs.declared.format.Asked.{Asked}
use Rattle.wave_file.specs.declared.stage.TheConstants.{MAX_SAMPLES}

-- in 16 ticks a sample, from the place of the first one on
abbrev pub track_settings : SlicesWave → Settings
track_settings w = from_start 16 w.threshold w.smooth

-- of a sound file its track is asked, at whatever rate, and all samples within the limit
abbrev pub asked_by : SlicesWave → Asked
asked_by w = record { track = w.track; least_rate = 1; most_samples = MAX_SAMPLES }

-- the header: each sample has 16 ticks
abbrev pub track_header : SlicesWave → WaveFormat → IntervalHeader
track_header w format = record { version = One; system = w.system; tick_rate = 16 * format.rate }

-- when the intervals of a distance are written
abbrev pub track_pace : SlicesWave → WaveFormat → Pace
track_pace w format = pace_of w.live w.system (16 * format.rate)

-- the file of the intervals of samples; there is none where the data have not begun
abbrev pub track_file : SlicesWave → Option WaveFormat → List ℤ → List ℕ
track_file w None samples = []
track_file w (Some format) samples =
    file_of (track_header w format) (intervals_at (track_pace w format) (track_settings w) samples)

-- the file of the track of a sound file
abbrev pub track_of : SlicesWave → List ℕ → List ℕ
track_of w bytes = track_file w (reading_of (asked_by w) bytes).format (reading_of (asked_by w) bytes).samples

-- what was written is the file of the track that is read. And of a sound file that was made of these blocks, it is the
-- file of the distances of the track's samples, whose first one runs from tick 0. The intervals give their crossings,
-- from tick 0 on. A distance is written when it has ended, or if it is live, in quarters of a frame as it passes
pub record SlicesTheTrack (w : SlicesWave) (bytes written : List ℕ) : Type 0 where
  pub are : written ≡ track_of w bytes
  pub made : (format : WaveFormat) (blocks : List (List Sample)) → IsMadeOf (asked_by w) format blocks bytes
      → written ≡ file_of (track_header w format)
      (intervals_at (track_pace w format) (from_start 16 w.threshold w.smooth) (samples_in w.track blocks))
  pub tell : (format : WaveFormat) (blocks : List (List Sample)) → IsMadeOf (asked_by w) format blocks bytes
      → TellTheCrossings (track_pace w format) (from_start 16 w.threshold w.smooth) (samples_in w.track blocks)
  pub ended : (format : WaveFormat) → w.live ≡ false → track_pace w format ≡ Ended
  pub passing : (format : WaveFormat) → w.live ≡ true
      → track_pace w format ≡ Passing (quarter_frame w.system (16 * format.rate))

-- what it takes and what it writes: the header stands where the data begin
abbrev pub along_sound_file : SlicesWave → Meaning
along_sound_file w = record {
  reads = true;
  verdict = λ bytes. verdict_as Sound (reading_of (asked_by w) bytes).verdict;
  end_fault = λ bytes. option_map Sound (end_fault_of (asked_by w) bytes);
  spent = λ bytes. ⊥;
  part = λ bytes written. written ≡ track_of w bytes;
  output = λ bytes written. written ≡ track_of w bytes;
}

-- what is told of it
abbrev pub told_wav_ltc : SlicesWave → Told
told_wav_ltc w = record {
  meaning = along_sound_file w;
  promise = SlicesTheTrack w;
  has_own_limit = false;
}
