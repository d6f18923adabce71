-- The faults of an interval file: the name of each in notes, and its byte place.
use Rattle.std.specs.Prelude.{ℕ, List}
use Rattle.interval_file.specs.declared.names.TheConstants as names
use Rattle.interval_file.specs.declared.fault.IntervalFileFault.{IntervalFileFault}
use Rattle.interval_file.specs.declared.fault.IntervalFileFault.TheVariants.{Magic, Version, System, Reserved, TickRate}
use Rattle.interval_file.specs.declared.fault.IntervalFileFault.TheVariants.{Interval, Truncated}

-- the name that notes print
abbrev pub name_of : IntervalFileFault → List ℕ
name_of (Magic _) = names.MAGIC_NAME.now
name_of (Version _) = names.VERSION_NAME.now
name_of (System _) = names.SYSTEM_NAME.now
name_of (Reserved _) = names.RESERVED_NAME.now
name_of (TickRate _) = names.TICK_RATE_NAME.now
name_of (Interval _) = names.INTERVAL_NAME.now
name_of (Truncated _) = names.TRUNCATED_NAME.now

-- the byte place at which the fault stands
abbrev pub place_of : IntervalFileFault → ℕ
place_of (Magic place) = place
place_of (Version place) = place
place_of (System place) = place
place_of (Reserved place) = place
place_of (TickRate place) = place
place_of (Interval place) = place
place_of (Truncated place) = place
