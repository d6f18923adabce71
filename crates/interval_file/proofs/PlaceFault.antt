-- A byte of the first eight that may not stand has the fault of its place.
use Rattle.std.proofs.Common.{◌≡◌, ℕ, slice_index, Bool, true, false, Some, None, refl}
use Rattle.std.specs.Prelude.{nat_lt, ◌==◌, is_some, if◌then◌else◌}
use Rattle.std.specs.declared.option.Option.{Option}
use Rattle.std.specs.Option.{is_none}
use Rattle.interval_file.specs.declared.fault.IntervalFileFault.{IntervalFileFault}
use Rattle.interval_file.specs.declared.fault.IntervalFileFault.TheVariants as fault
use Rattle.interval_file.specs.declared.header.TheConstants.{MAGIC}
use Rattle.interval_file.specs.Grammar.{fault_at, fault_unless, may_stand}
use Rattle.interval_file.specs.IntervalHeader.{system_at, version_at}

-- the fault of each place
abbrev pub place_fault : ℕ → IntervalFileFault
place_fault place =
    if nat_lt place 4 then fault.Magic place
    else if place == 4 then fault.Version place
    else if place == 5 then fault.System place
    else fault.Reserved place

-- the table with its tests as they came out
abbrev of_row : (low four five magic version system zero : Bool) → ℕ → Option IntervalFileFault
of_row low four five magic version system zero place =
    if low then fault_unless magic (fault.Magic place)
    else if four then fault_unless version (fault.Version place)
    else if five then fault_unless system (fault.System place)
    else fault_unless zero (fault.Reserved place)

by_row : (low four five magic version system zero : Bool) (place : ℕ)
    → of_row low four five magic version system zero place
    ≡ (if is_none (of_row low four five magic version system zero place) then None
    else Some (if low then fault.Magic place else if four then fault.Version place else if five then fault.System place
    else fault.Reserved place))
by_row true four five true version system zero place = refl
by_row true four five false version system zero place = refl
by_row false true five magic true system zero place = refl
by_row false true five magic false system zero place = refl
by_row false false true magic version true zero place = refl
by_row false false true magic version false zero place = refl
by_row false false false magic version system true place = refl
by_row false false false magic version system false place = refl

pub fault_is : (place byte : ℕ) → fault_at place byte ≡
    (if may_stand place byte then None else Some (place_fault place))
fault_is place byte =
    by_row (nat_lt place 4) (place == 4) (place == 5) (byte == slice_index MAGIC place) (is_some (version_at byte))
    (is_some (system_at byte)) (byte == 0) place
