-- Which command the words of a line work. What each name of a command means is a definition of its own crate, and this
-- says which words mean it, past the job that they name.
use Rattle.std.specs.Prelude.{◌≡◌, ◌↔◌, ℕ, List, codes, Ok}
use Rattle.biphase.specs.declared.profile.Profile.TheVariants.{Normal, Worn, Rough}
use Rattle.column_command.specs.AnsweredText.{told_columns}
use Rattle.forms.specs.Lines.{task_of_line}
use Rattle.frame_commands.specs.LtcChase.{told_ltc_chase}
use Rattle.frame_commands.specs.LtcFly.{told_ltc_fly}
use Rattle.frame_commands.specs.LtcJam.{told_ltc_jam}
use Rattle.frame_commands.specs.LtcMtc.{told_ltc_mtc}
use Rattle.frame_commands.specs.LtcSpans.{told_ltc_spans}
use Rattle.interval_commands.specs.FirmTape.{told_ltc_consecutive, told_ltc_counted, told_ltc_firm}
use Rattle.interval_commands.specs.LtcConvert.{told_ltc_convert}
use Rattle.interval_commands.specs.LtcPcm.{told_ltc_pcm}
use Rattle.interval_commands.specs.Tape.{told_ltc_read}
use Rattle.label_command.specs.Labels.{told_labels}
use Rattle.label_command.specs.Sums.{told_sum}
use Rattle.made_commands.specs.About.{told_help, told_version}
use Rattle.made_commands.specs.Labels.{told_label, told_number}
use Rattle.made_commands.specs.Load.{told_ltc_load}
use Rattle.made_commands.specs.Made.{told_ltc_make}
use Rattle.made_commands.specs.MadeLines.{told_vitc_make}
use Rattle.made_commands.specs.Pages.{told_page, told_statuses}
use Rattle.signal_commands.specs.LumaVitc.{told_luma_vitc}
use Rattle.signal_commands.specs.MtcRead.{told_mtc_read}
use Rattle.signal_commands.specs.PcmLtc.{told_pcm_ltc}
use Rattle.signal_commands.specs.PcmPath.{told_pcm_path}
use Rattle.signal_commands.specs.VitcRead.{told_vitc_read}
use Rattle.signal_commands.specs.WavLtc.{told_wav_ltc}
use Rattle.signal_commands.specs.WavPath.{told_wav_path}
use Rattle.tc_address.specs.Label.{Address}
use Rattle.tc_command.specs.Meaning.{Meaning}
use Rattle.tc_command.specs.Told.{Told}
use Rattle.tc_job.specs.declared.job.Job.{Job}
use Rattle.tc_job.specs.declared.job.Job.TheVariants as jobs
use Rattle.tc_job.specs.declared.job.Task.TheVariants.{Stream}
use Rattle.tc_top.specs.Commands.{told_of}

-- of the same bytes the same is written, and the same is promised
abbrev pub AreOneCommand : Told → Told → Type 0
AreOneCommand a b =
    (pulled written : List ℕ)
    → (Meaning.output (Told.meaning a) pulled written ↔ Meaning.output (Told.meaning b) pulled written)
    × (Told.promise a pulled written ↔ Told.promise b pulled written)

-- the line names a job whose command is this one
abbrev pub Works : List ℕ → Told → Type 0
Works line told = (job : Job) × (task_of_line line ≡ Ok (Stream job)) × AreOneCommand (told_of job) told

-- the line names a job with some values, and the command of each such job is this one, with its values
abbrev pub WorksWith : {V : Type 0} → List ℕ → (V → Job) → (V → Told) → Type 0
WorksWith line job told =
    ((values : _) × (task_of_line line ≡ Ok (Stream (job values))))
    × ((values : _) → AreOneCommand (told_of (job values)) (told values))

-- the commands along the intervals and the frames of a recording
pub record RecordingsAreWorked : Type 0 where
  pub read : Works (codes "ltc-read") (told_ltc_read Normal)
  pub worn : Works (codes "ltc-worn") (told_ltc_read Worn)
  pub rough : Works (codes "ltc-rough") (told_ltc_read Rough)
  pub firm : Works (codes "ltc-rough firm") (told_ltc_firm Rough)
  pub consecutive : Works (codes "ltc-rough consecutive") (told_ltc_consecutive Rough)
  pub counted : Works (codes "ltc-rough counted") (told_ltc_counted Rough)
  pub convert : WorksWith (codes "ltc-convert 2") jobs.LtcConvert told_ltc_convert
  pub pcm : WorksWith (codes "ltc-pcm 8192") jobs.LtcPcm told_ltc_pcm
  pub fly : WorksWith (codes "ltc-fly 2") jobs.LtcFly told_ltc_fly
  pub spans : WorksWith (codes "ltc-spans 2") jobs.LtcSpans told_ltc_spans
  pub mtc : WorksWith (codes "ltc-mtc 2") jobs.LtcMtc told_ltc_mtc
  pub jam : WorksWith (codes "ltc-jam 2 24 48000") jobs.LtcJam told_ltc_jam
  pub chase : WorksWith (codes "ltc-chase 25 01:02:03:04 5 53 8") jobs.LtcChase told_ltc_chase

-- those of sound, MIDI bytes, lines and pixels
pub record SignalsAreWorked : Type 0 where
  pub samples : WorksWith (codes "pcm-ltc 25 48000 9") jobs.PcmLtc told_pcm_ltc
  pub path : WorksWith (codes "pcm-ltc 25 48000 9 16 path") jobs.PcmPath told_pcm_path
  pub track : WorksWith (codes "wav-ltc 25 2 250") jobs.WavLtc told_wav_ltc
  pub track_path : WorksWith (codes "wav-ltc 25 2 250 path") jobs.WavPath told_wav_path
  pub midi : Works (codes "mtc-read") told_mtc_read
  pub lines : Works (codes "vitc-read") told_vitc_read
  pub pixels : WorksWith (codes "luma-vitc 25 720 288 5 40") jobs.LumaVitc told_luma_vitc

-- those that read nothing, and those of labels. The words of `label` are in `forms/specs/NumberedLines.antt`
pub record TextsAreWorked : Type 0 where
  pub make : WorksWith (codes "ltc-make 25 forward 01:02:03:04 5 400 48000") jobs.LtcMake told_ltc_make
  pub make_lines : WorksWith (codes "vitc-make 25 01:02:03:04 5 1728") jobs.VitcMake told_vitc_make
  pub load : WorksWith (codes "ltc-load 53 100") jobs.LtcLoad told_ltc_load
  pub number : WorksWith (codes "number 25 01:02:03:04") jobs.Number told_number
  pub label : (label : Address) → AreOneCommand (told_of (jobs.LabelOf label)) (told_label label)
  pub labels : WorksWith (codes "labels 25 number") jobs.Labels told_labels
  pub columns : WorksWith (codes "labels 25 column 5 number") jobs.Columns told_columns
  pub sum : WorksWith (codes "labels 25 sum") jobs.Sum told_sum
  pub help : Works (codes "help") told_help
  pub page : WorksWith (codes "help ltc-read") jobs.HelpOf told_page
  pub statuses : Works (codes "help statuses") told_statuses
  pub version : Works (codes "version") told_version
