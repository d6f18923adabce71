-- What a further command makes of what a job wrote follows from what is said of the files between them.
use Rattle.std.proofs.Common.{◌≡◌, ℕ, ◌<◌, ◌≤◌, ◌^◌, List, ◌++◌, length, refl, ◌∙◌, ap, subst}
use Rattle.limits.specs.declared.recording.TheConstants.{MAX_INTERVALS}
use Rattle.biphase.specs.declared.profile.Profile.{Profile}
use Rattle.biphase.specs.declared.profile.Profile.TheVariants.{Normal}
use Rattle.direction_reader.specs.declared.event.Event.{Event}
use Rattle.direction_reader.specs.ListEvents.{AreEvents}
use Rattle.tc_address.specs.declared.system.System.{System}
use Rattle.interval_file.specs.declared.header.IntervalHeader.{IntervalHeader}
use Rattle.interval_file.specs.Grammar.{IsFile}
use Rattle.interval_file.specs.Recording.{Recording, recording_of}
use Rattle.tc_job.specs.declared.job.Job.{Job}
use Rattle.tc_job.specs.declared.job.Job.TheVariants.{LtcMtc, LtcJam, LtcPcm, LumaVitc, Number, LabelOf, Labels}
use Rattle.tc_job.specs.declared.job.Job.TheVariants.{PcmPath, WavPath, Help, HelpOf, HelpStatuses}
use Rattle.tc_job.specs.Jam.{Jamming}
use Rattle.tc_job.specs.LabelRun.{LabelRunning}
use Rattle.tc_job.specs.LumaRun.{LumaReading}
use Rattle.tc_job.specs.PathSlicing.{IsPathSlicing, SlicesPath}
use Rattle.tc_job.specs.TrackPath.{SlicesTrackPath}
use Rattle.tc_command.specs.Meaning.{Meaning, IsInput}
use Rattle.tc_command.specs.Told.{KeepsPromise}
use Rattle.pcm_front.specs.Samples.{samples_of}
use Rattle.signal_commands.specs.LumaVitc.{told_luma_vitc}
use Rattle.signal_commands.specs.PathFile.{IsPathRead, IsTrackPathRead}
use Rattle.signal_commands.specs.PcmPath.{IsPathFile}
use Rattle.signal_commands.specs.WavPath.{along_track_path}
use Rattle.label_command.specs.AnsweredAgain.{IsAnsweredAgain}
use Rattle.label_command.specs.Labels.{along_labels}
use Rattle.interval_engine.specs.Along.{IsWholeOf}
use Rattle.interval_commands.specs.LtcRead.{last_line, lines, report}
use Rattle.tc_top.specs.CleanCopy.{IsReportedClean}
use Rattle.tc_top.specs.Promises.{IsReadOn}
use Rattle.tc_top.proofs.FormsWritten.{FormsLaws, tells_the_forms}
use Rattle.tc_top.proofs.LabelsHeard.{HaveLabels}
use Rattle.tc_top.proofs.NamedAgain.{LabelsLaws, named_again, numbered_by_text}
use Rattle.tc_top.proofs.PagesWritten.{PagesLaws, tells_of_the_command, tells_of_the_statuses}
use Rattle.tc_top.proofs.ReadAsFields.{read_as_fields, AnswersLaws}
use Rattle.tc_top.proofs.SentIsRead.{AreReadBack, sends_the_frames}
use Rattle.tc_top.proofs.SlicedAgain.{SoundLaws, sliced_again}

-- what the laws of the crates below say
pub record ReadOnLaws : Type 1 where
  pub one_list : (system : System) (profile : Profile) (list : List ℕ) (a b : List Event)
      → AreEvents system profile list a → AreEvents system profile list b → a ≡ b
  pub labels : HaveLabels
  pub back : AreReadBack
  pub numbers : LabelsLaws
  pub forms : FormsLaws
  pub pages : PagesLaws
  pub sound : SoundLaws
  pub answers : AnswersLaws
  pub path : (p : SlicesPath) (bytes written : List ℕ) → IsPathSlicing p → IsPathFile p (samples_of bytes) written
      → IsPathRead p bytes written
  pub track : (t : SlicesTrackPath) (bytes written : List ℕ) → Meaning.output (along_track_path t) bytes written
      → IsTrackPathRead t bytes written
  pub again : (run : LabelRunning) (bytes written : List ℕ) → IsInput (along_labels run) bytes
      → Meaning.output (along_labels run) bytes written → IsAnsweredAgain run bytes written

-- the report of a file within the limit whose events are these
reported : ReadOnLaws → (header : IntervalHeader) (list bytes : List ℕ) (events : List Event) → IsFile bytes header list
    → AreEvents header.system Normal list events → (text : List ℕ) → length list ≤ MAX_INTERVALS
    → IsWholeOf (report Normal) (recording_of bytes) text → text ≡ lines header events ++ last_line list events
reported laws header list bytes events file are text few output =
    let said = (laws.sound.files bytes header list file few).0 in
    let whole = subst (λ (r : Recording). IsWholeOf (report Normal) r text) said output in
    let same = laws.one_list header.system Normal list whole.events events whole.are_events are in
    whole.are ∙ ap (λ (es : List Event). lines header es ++ last_line list es) same

copy_is_reported : ReadOnLaws → (j : Jamming) (pulled written : List ℕ) → IsReportedClean j pulled written
copy_is_reported laws j pulled written = λ clean text few output.
    reported laws _ _ written _ clean.file clean.read text few output

pub read_on : ReadOnLaws → (job : Job) → ((level : ℕ) → job ≡ LtcPcm level → level < 2 ^ 15)
    → ((path : SlicesPath) → job ≡ PcmPath path → IsPathSlicing path)
    → ((luma : LumaReading) → job ≡ LumaVitc luma → KeepsPromise (told_luma_vitc luma)) → IsReadOn job
read_on laws (LtcMtc flight) level path told = λ pulled written are input output.
    sends_the_frames laws.back laws.labels flight pulled written output
read_on laws (LtcJam jam) level path told = λ pulled written are input output. copy_is_reported laws jam pulled written
read_on laws (LtcPcm size) level path told = λ pulled written are input output.
    sliced_again laws.sound size (level size refl) pulled written are input output
read_on laws (PcmPath p) level path told = λ pulled written are input output.
    laws.path p pulled written (path p refl) output
read_on laws (WavPath t) level path told = λ pulled written are input output. laws.track t pulled written output
read_on laws (LumaVitc luma) level path told = λ pulled written are input output.
    read_as_fields laws.answers luma (told luma refl) pulled written are input output
read_on laws (Number label) level path told = λ pulled written are input output.
    named_again laws.numbers label pulled written
read_on laws (LabelOf label) level path told = λ pulled written are input output. numbered_by_text label pulled written
read_on laws (Labels run) level path told = λ pulled written are input output. laws.again run pulled written input output
read_on laws Help level path told = λ pulled written are input output. tells_the_forms laws.forms written output.1
read_on laws (HelpOf page) level path told = λ pulled written are input output.
    tells_of_the_command laws.pages page written output.1
read_on laws HelpStatuses level path told = λ pulled written are input output.
    tells_of_the_statuses laws.pages written output.1
read_on laws job level path told = λ pulled written are input output. tt
