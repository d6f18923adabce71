-- The systems and the counts (SMPTE 12M, "time address" and "drop frame").
use Rattle.std.specs.Prelude.{ℕ}
use Rattle.tc_address.specs.declared.system.System.{System}
use Rattle.tc_address.specs.declared.system.System.TheVariants.{F24, F25, F30}
use Rattle.tc_address.specs.declared.count.Count.{Count}
use Rattle.tc_address.specs.declared.count.Count.TheVariants.{C24, C25, C30, Drop30}

-- the frames of a second
abbrev pub rate_of : System → ℕ
rate_of F24 = 24
rate_of F25 = 25
rate_of F30 = 30

-- the system of a count
abbrev pub system_with : Count → System
system_with C24 = F24
system_with C25 = F25
system_with C30 = F30
system_with Drop30 = F30
