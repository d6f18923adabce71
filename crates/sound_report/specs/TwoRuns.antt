-- Two runs of the program, of which the second reads what the first one wrote: a sound is sliced, and then reported.
use Rattle.std.specs.Prelude.{◌≡◌, ℕ, ◌*◌, List, ◌∷◌, true, false, Some, Ok}
use Rattle.biphase.specs.declared.cell.Cell.{Cell}
use Rattle.biphase.specs.declared.profile.Profile.{Profile}
use Rattle.biphase.specs.declared.profile.Profile.TheVariants.{Normal, Worn, Rough}
use Rattle.biphase.specs.Chain.{bits}
use Rattle.direction_reader.specs.Played.{Played, AreSpelled, bits_of_words}
use Rattle.pcm_front.specs.Samples.{samples_of}
use Rattle.pcm_front.specs.Sums.{sums}
use Rattle.signal_commands.specs.PcmLtc.{settings_for}
use Rattle.signal_commands.specs.WavLtc.{track_settings}
use Rattle.tape_sound.specs.Heard.{BeginsLate, FitsAFile, FitsBehindASilence, HasMargin}
use Rattle.tc_command.specs.declared.status.Status.TheVariants.{Done}
use Rattle.tc_command.specs.Exchange.{Exchange}
use Rattle.tc_job.specs.declared.job.Job.{Job}
use Rattle.tc_job.specs.declared.job.Job.TheVariants.{LtcRead, LtcWorn, LtcRough}
use Rattle.tc_job.specs.declared.job.Task.TheVariants.{Stream}
use Rattle.tc_job.specs.declared.witness.Witness.TheVariants.{NotAsked}
use Rattle.tc_job.specs.Slicing.{IsSlicing, Slices}
use Rattle.tc_job.specs.WaveSlicing.{SlicesWave}
use Rattle.tc_top.specs.Answer.{IsRunAnswer}
use Rattle.tc_words.specs.Words.{answer_to}
use Rattle.wave_file.specs.declared.format.WaveFormat.{WaveFormat}
use Rattle.wave_file.specs.Wave.{reading_of}
use Rattle.sound_report.specs.Whole.{AreWhole}
use Rattle.signal_commands.specs.WavLtc.{asked_by}

-- ---- the runs

-- the words name a job, and its run came to the end of its input: it pulled these bytes, and wrote those
pub record Ran (words : List (List ℕ)) (job : Job) (pulled written : List ℕ) : Type 0 where
  pub named : answer_to words ≡ Ok (Stream job)
  pub run : Exchange
  pub done : IsRunAnswer words Done run
  pub pulled_are : run.pulled ≡ pulled
  pub written_are : run.written ≡ written

-- two runs: what the first one wrote, the second one pulled
pub record Piped (first : Job) (second : Job) (input text : List ℕ) : Type 0 where
  pub words : List (List ℕ)
  pub between : List ℕ
  pub wrote : Ran words first input between
  pub words_behind : List (List ℕ)
  pub read : Ran words_behind second between text

-- the job that reports under a tolerance
abbrev pub report_under : Profile → Job
report_under Normal = LtcRead
report_under Worn = LtcWorn
report_under Rough = LtcRough NotAsked

-- ---- the sound

-- the samples have a margin for a tape of these words, and its intervals fit a file
pub record SoundsWords (profile : Profile) (s : Slices) (tape : List Cell) (words : List Played) (sound : List ℕ)
    : Type 0 where
  pub is : IsSlicing s
  pub margin : HasMargin profile s.fineness s.threshold tape (sums s.smooth (samples_of sound))
  pub fits : FitsAFile margin.delay tape
  pub whole : AreWhole s.live s.system (s.rate * s.fineness) (settings_for s) (samples_of sound)
  pub begins : bits tape ≡ false ∷ true ∷ bits_of_words words
  pub spelled : AreSpelled s.system words

-- the same of a track of a sound file, where the tape begins behind a silence
pub record TrackSoundsWords (profile : Profile) (w : SlicesWave) (format : WaveFormat) (tape : List Cell)
    (words : List Played) (file : List ℕ) : Type 0 where
  pub is : (reading_of (asked_by w) file).format ≡ Some format
  pub margin : HasMargin profile 16 w.threshold tape (sums w.smooth (reading_of (asked_by w) file).samples)
  pub late : BeginsLate margin.delay margin.start tape
  pub fits : FitsBehindASilence margin.delay margin.start tape
  pub whole : AreWhole w.live w.system (16 * format.rate) (track_settings w) (reading_of (asked_by w) file).samples
  pub begins : bits tape ≡ false ∷ true ∷ bits_of_words words
  pub spelled : AreSpelled w.system words
