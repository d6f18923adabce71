use Rattle.biphase.specs.declared.profile.Profile.TheVariants.{Normal, Worn, Rough}
use Rattle.tc_job.specs.declared.job.Job.{Job}
use Rattle.tc_job.specs.declared.job.Job.TheVariants as jobs
use Rattle.tc_job.specs.declared.witness.Witness.TheVariants.{NotAsked, Asked, Consecutive, Counted}
use Rattle.tc_command.specs.Told.{IsLawful}
use Rattle.tc_top.specs.Commands.{told_of}
use Rattle.tc_top.proofs.streaming.each_job_is_lawful.Goals as goal

-- a line a command, in the order of the calls
pub returns : goal.returns
returns c = lawful
  where
    lawful : (job : Job) → IsLawful (told_of job)
    lawful jobs.LtcRead = c.is_lawful.ensures (record { profile = Normal })
    lawful jobs.LtcWorn = c.is_lawful.ensures (record { profile = Worn })
    lawful (jobs.LtcRough NotAsked) = c.is_lawful.ensures (record { profile = Rough })
    lawful (jobs.LtcRough Asked) = c.is_lawful-2.ensures (record { profile = Rough })
    lawful (jobs.LtcRough Consecutive) = c.is_lawful-3.ensures (record { profile = Rough })
    lawful (jobs.LtcRough Counted) = c.is_lawful-4.ensures (record { profile = Rough })
    lawful (jobs.LtcFly flight) = c.is_lawful-5.ensures (record { flight = flight })
    lawful (jobs.LtcSpans flight) = c.is_lawful-6.ensures (record { flight = flight })
    lawful (jobs.LtcMtc flight) = c.is_lawful-7.ensures (record { flight = flight })
    lawful (jobs.LtcJam jam) = c.is_lawful-8.ensures (record { jam = jam })
    lawful (jobs.LtcChase run) = c.is_lawful-9.ensures (record { run = run })
    lawful (jobs.LtcMake stripe) = c.is_lawful-10.ensures (record { stripe = stripe })
    lawful (jobs.LtcConvert version) = c.is_lawful-11.ensures (record { version = version })
    lawful (jobs.LtcLoad run) = c.is_lawful-12.ensures (record { run = run })
    lawful (jobs.LtcPcm level) = c.is_lawful-13.ensures (record { level = level })
    lawful (jobs.PcmLtc slicing) = c.is_lawful-14.ensures (record { slicing = slicing })
    lawful (jobs.PcmPath path) = c.is_lawful-15.ensures (record { path = path })
    lawful (jobs.WavLtc slicing) = c.is_lawful-16.ensures (record { slicing = slicing })
    lawful (jobs.WavPath path) = c.is_lawful-17.ensures (record { path = path })
    lawful jobs.MtcRead = c.is_lawful-18.ensures (record {})
    lawful jobs.VitcRead = c.is_lawful-19.ensures (record {})
    lawful (jobs.LumaVitc run) = c.is_lawful-20.ensures (record { run = run })
    lawful (jobs.VitcMake stripe) = c.is_lawful-21.ensures (record { stripe = stripe })
    lawful (jobs.Number label) = c.is_lawful-22.ensures (record { label = label })
    lawful (jobs.LabelOf label) = c.is_lawful-23.ensures (record { label = label })
    lawful (jobs.Labels run) = c.is_lawful-24.ensures (record { run = run })
    lawful (jobs.Columns run) = c.is_lawful-25.ensures (record { run = run })
    lawful (jobs.Sum base) = c.is_lawful-26.ensures (record { base = base })
    lawful jobs.Help = c.is_lawful-27.ensures (record {})
    lawful (jobs.HelpOf page) = c.is_lawful-28.ensures (record { page = page })
    lawful jobs.HelpStatuses = c.is_lawful-29.ensures (record {})
    lawful jobs.Version = c.is_lawful-30.ensures (record {})
