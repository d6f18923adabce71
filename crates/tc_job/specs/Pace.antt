-- When the intervals of a distance are written. The rule is this project's own.
use Rattle.std.specs.Prelude.{ℕ, ◌*◌, ◌/◌, max, min, Bool, cond}
use Rattle.pcm_front.specs.declared.pace.Pace.{Pace}
use Rattle.pcm_front.specs.declared.pace.Pace.TheVariants.{Ended, Passing}
use Rattle.limits.specs.declared.recording.TheConstants.{MAX_INTERVAL}
use Rattle.tc_address.specs.declared.system.System.{System}
use Rattle.tc_address.specs.Count.{rate_of}

-- a quarter of a frame at play speed, in ticks, rounded down: from 1 to the greatest interval
abbrev pub quarter_frame : System → ℕ → ℕ
quarter_frame system tick_rate = min (max (tick_rate / (4 * rate_of system)) 1) MAX_INTERVAL

-- when the intervals of a distance are written, of time code of a system, at this many ticks a second: as it passes, in
-- quarters of a frame, if the recording is live
abbrev pub pace_of : Bool → System → ℕ → Pace
pace_of live system tick_rate = cond live (Passing (quarter_frame system tick_rate)) Ended
