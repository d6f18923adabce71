-- How many frames pass in real time (SMPTE 12M, "time address"; the rates of colour television are 1000/1001 of whole
-- ones).
use Rattle.std.specs.Prelude.{ℕ}
use Rattle.real_time.specs.declared.rate.FrameRate.{FrameRate}
use Rattle.real_time.specs.declared.rate.FrameRate.TheVariants.{R24, PulledDown24, R25, R30, PulledDown30}

-- this many frames
abbrev pub frames_in : FrameRate → ℕ
frames_in R24 = 24
frames_in PulledDown24 = 24_000
frames_in R25 = 25
frames_in R30 = 30
frames_in PulledDown30 = 30_000

-- pass in this many seconds
abbrev pub seconds_of : FrameRate → ℕ
seconds_of R24 = 1
seconds_of PulledDown24 = 1_001
seconds_of R25 = 1
seconds_of R30 = 1
seconds_of PulledDown30 = 1_001
