-- All that is claimed of the command of each job: what it takes and what it writes, and what it promises of that. A
-- line for each command.
use Rattle.biphase.specs.declared.profile.Profile.TheVariants.{Normal, Worn, Rough}
use Rattle.tc_job.specs.declared.job.Job.{Job}
use Rattle.tc_job.specs.declared.job.Job.TheVariants as jobs
use Rattle.tc_job.specs.declared.witness.Witness.TheVariants.{NotAsked, Asked, Consecutive, Counted}
use Rattle.tc_command.specs.Meaning.{Meaning}
use Rattle.tc_command.specs.Told.{Told}
use Rattle.column_command.specs.AnsweredText.{told_columns}
use Rattle.interval_commands.specs.FirmTape.{told_ltc_consecutive, told_ltc_counted, told_ltc_firm}
use Rattle.interval_commands.specs.LtcConvert.{told_ltc_convert}
use Rattle.interval_commands.specs.LtcPcm.{told_ltc_pcm}
use Rattle.interval_commands.specs.Tape.{told_ltc_read}
use Rattle.frame_commands.specs.LtcChase.{told_ltc_chase}
use Rattle.frame_commands.specs.LtcFly.{told_ltc_fly}
use Rattle.frame_commands.specs.LtcJam.{told_ltc_jam}
use Rattle.frame_commands.specs.LtcMtc.{told_ltc_mtc}
use Rattle.frame_commands.specs.LtcSpans.{told_ltc_spans}
use Rattle.label_command.specs.Labels.{told_labels}
use Rattle.label_command.specs.Sums.{told_sum}
use Rattle.made_commands.specs.About.{told_help, told_version}
use Rattle.made_commands.specs.Labels.{told_label, told_number}
use Rattle.made_commands.specs.Load.{told_ltc_load}
use Rattle.made_commands.specs.Made.{told_ltc_make}
use Rattle.made_commands.specs.MadeLines.{told_vitc_make}
use Rattle.made_commands.specs.Pages.{told_page, told_statuses}
use Rattle.signal_commands.specs.LumaVitc.{told_luma_vitc}
use Rattle.signal_commands.specs.MtcRead.{told_mtc_read}
use Rattle.signal_commands.specs.PcmLtc.{told_pcm_ltc}
use Rattle.signal_commands.specs.PcmPath.{told_pcm_path}
use Rattle.signal_commands.specs.VitcRead.{told_vitc_read}
use Rattle.signal_commands.specs.WavLtc.{told_wav_ltc}
use Rattle.signal_commands.specs.WavPath.{told_wav_path}

-- the command of each job: its meaning, its promise, and whether it has a limit of its own
abbrev pub told_of : Job → Told
told_of jobs.LtcRead = told_ltc_read Normal
told_of jobs.LtcWorn = told_ltc_read Worn
told_of (jobs.LtcRough NotAsked) = told_ltc_read Rough
told_of (jobs.LtcRough Asked) = told_ltc_firm Rough
told_of (jobs.LtcRough Consecutive) = told_ltc_consecutive Rough
told_of (jobs.LtcRough Counted) = told_ltc_counted Rough
told_of (jobs.LtcFly flight) = told_ltc_fly flight
told_of (jobs.LtcSpans flight) = told_ltc_spans flight
told_of (jobs.LtcMtc flight) = told_ltc_mtc flight
told_of (jobs.LtcJam jam) = told_ltc_jam jam
told_of (jobs.LtcChase run) = told_ltc_chase run
told_of (jobs.LtcMake stripe) = told_ltc_make stripe
told_of (jobs.LtcConvert version) = told_ltc_convert version
told_of (jobs.LtcLoad run) = told_ltc_load run
told_of (jobs.LtcPcm level) = told_ltc_pcm level
told_of (jobs.PcmLtc slicing) = told_pcm_ltc slicing
told_of (jobs.PcmPath path) = told_pcm_path path
told_of (jobs.WavLtc slicing) = told_wav_ltc slicing
told_of (jobs.WavPath path) = told_wav_path path
told_of jobs.MtcRead = told_mtc_read
told_of jobs.VitcRead = told_vitc_read
told_of (jobs.LumaVitc run) = told_luma_vitc run
told_of (jobs.VitcMake stripe) = told_vitc_make stripe
told_of (jobs.Number label) = told_number label
told_of (jobs.LabelOf label) = told_label label
told_of (jobs.Labels run) = told_labels run
told_of (jobs.Columns run) = told_columns run
told_of (jobs.Sum base) = told_sum base
told_of jobs.Help = told_help
told_of (jobs.HelpOf page) = told_page page
told_of jobs.HelpStatuses = told_statuses
told_of jobs.Version = told_version

-- what each command takes and writes
abbrev pub meaning_of : Job → Meaning
meaning_of job = (told_of job).meaning
