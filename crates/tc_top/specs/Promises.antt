-- What each job promises of a run that came to its end, of the bytes that were pulled and those that were written.
use Rattle.std.specs.Prelude.{ℕ, List}
use Rattle.tc_io.specs.Bytes.{AreBytes}
use Rattle.tc_job.specs.declared.job.Job.{Job}
use Rattle.tc_job.specs.declared.job.Job.TheVariants.{LtcMtc, LtcJam, LtcPcm, LumaVitc, Number, LabelOf, Labels}
use Rattle.tc_job.specs.declared.job.Job.TheVariants.{PcmPath, WavPath, Help, HelpOf, HelpStatuses}
use Rattle.signal_commands.specs.PathFile.{IsPathRead, IsTrackPathRead}
use Rattle.label_command.specs.AnsweredAgain.{IsAnsweredAgain}
use Rattle.tc_command.specs.Meaning.{Meaning, IsInput}
use Rattle.tc_top.specs.CleanCopy.{IsReportedClean}
use Rattle.tc_top.specs.Commands.{meaning_of, told_of}
use Rattle.tc_top.specs.FieldsAgain.{IsReadAsFields}
use Rattle.tc_top.specs.FormsTyped.{TellsTheForms}
use Rattle.tc_top.specs.LabelsAgain.{IsNamedAgain, IsNumberedAgain}
use Rattle.tc_top.specs.PagesTold.{TellsOfTheCommand, TellsOfTheStatuses}
use Rattle.tc_top.specs.SentAgain.{SendsTheFrames}
use Rattle.tc_top.specs.SoundAgain.{IsSlicedAgain}

-- what a further command makes of what a job wrote: `mtc-read` of what `ltc-mtc` sends, `ltc-read` of what `ltc-jam`
-- copies, `pcm-ltc` and `wav-ltc` of what `ltc-pcm` sounds, each reader of intervals of what `pcm-ltc .. path` and
-- `wav-ltc .. path` write, `vitc-read` of what `luma-vitc` writes of a picture, `number` and `label` of what the other
-- writes, `labels` of its own answers, and each command of its line of `help` and of the values and examples of its
-- page. There is a line for each job whose output another command reads
abbrev pub ReadsOn : Job → List ℕ → List ℕ → Type 0
ReadsOn (LtcMtc flight) = SendsTheFrames flight
ReadsOn (LtcJam jam) = IsReportedClean jam
ReadsOn (LtcPcm level) = IsSlicedAgain level
ReadsOn (PcmPath path) = IsPathRead path
ReadsOn (WavPath path) = IsTrackPathRead path
ReadsOn (LumaVitc luma) = IsReadAsFields luma
ReadsOn (Number label) = IsNamedAgain label
ReadsOn (LabelOf label) = IsNumberedAgain label
ReadsOn (Labels run) = IsAnsweredAgain run
ReadsOn Help = λ pulled. TellsTheForms
ReadsOn (HelpOf page) = λ pulled. TellsOfTheCommand page
ReadsOn HelpStatuses = λ pulled. TellsOfTheStatuses
ReadsOn _ = λ pulled written. Unit {0}

-- the promise of its command, and what a further command makes of it
pub record Promise (job : Job) (pulled written : List ℕ) : Type 0 where
  pub own : (told_of job).promise pulled written
  pub read_on : ReadsOn job pulled written

-- what a further command makes of what the job writes of each input is this
abbrev pub IsReadOn : Job → Type 0
IsReadOn job = (pulled written : List ℕ) → AreBytes pulled → IsInput (meaning_of job) pulled
    → Meaning.output (meaning_of job) pulled written → ReadsOn job pulled written
