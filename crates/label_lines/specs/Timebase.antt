-- A count together with the rate at which its frames run (SMPTE 12M, "time address" and "drop frame").
use Rattle.tc_address.specs.declared.count.Count.{Count}
use Rattle.tc_address.specs.declared.count.Count.TheVariants as counts
use Rattle.real_time.specs.declared.rate.FrameRate.{FrameRate}
use Rattle.real_time.specs.declared.rate.FrameRate.TheVariants as rates
use Rattle.label_lines.specs.declared.timebase.Timebase.{Timebase}
use Rattle.label_lines.specs.declared.timebase.Timebase.TheVariants.{F24, PulledDown24, F25, F30, PulledDown30, Drop30}

-- how the frames are counted
abbrev pub count_of : Timebase → Count
count_of F24 = counts.C24
count_of PulledDown24 = counts.C24
count_of F25 = counts.C25
count_of F30 = counts.C30
count_of PulledDown30 = counts.C30
count_of Drop30 = counts.Drop30

-- the rate at which they run
abbrev pub rate_of : Timebase → FrameRate
rate_of F24 = rates.R24
rate_of PulledDown24 = rates.PulledDown24
rate_of F25 = rates.R25
rate_of F30 = rates.R30
rate_of PulledDown30 = rates.PulledDown30
rate_of Drop30 = rates.PulledDown30
