-- The bytes of an interval, in each version of the file. A number is the sum of its bytes by their weights, the most
-- significant one first.
use Rattle.std.specs.Prelude.{ℕ, List, ◌∷◌, drop, nat_le, nat_lt, ◌==◌, ◌&&◌, Result, Ok, Err, if◌then◌else◌}
use Rattle.byteorder.specs.Endian.{big_bytes, big_number}
use Rattle.limits.specs.declared.recording.TheConstants.{MAX_INTERVAL}
use Rattle.interval_file.specs.declared.fault.IntervalFileFault.{IntervalFileFault}
use Rattle.interval_file.specs.declared.fault.IntervalFileFault.TheVariants as fault
use Rattle.interval_file.specs.declared.header.FileVersion.{FileVersion}
use Rattle.interval_file.specs.declared.header.FileVersion.TheVariants.{One, Two}
use Rattle.interval_file.specs.declared.piece.TheConstants.{LEAST_LONG}

-- how many bytes the interval has that begins with these: four in version 1; in version 2 six where the first two are
-- 0, and else two
abbrev pub piece_width : FileVersion → List ℕ → ℕ
piece_width One bytes = 4
piece_width Two bytes = if big_number 2 bytes == 0 then 6 else 2

-- the most bytes of an interval
abbrev pub most_width : FileVersion → ℕ
most_width One = 4
most_width Two = 6

-- the number that the bytes of an interval spell; six bytes spell it behind two that are 0
abbrev pub ticks_in : FileVersion → List ℕ → ℕ
ticks_in One bytes = big_number 4 bytes
ticks_in Two bytes = if big_number 2 bytes == 0 then big_number 4 (drop 2 bytes) else big_number 2 bytes

-- the least interval that may be spelled so: what fits in two bytes is not written in six
abbrev pub least_in : FileVersion → List ℕ → ℕ
least_in One bytes = 1
least_in Two bytes = if big_number 2 bytes == 0 then LEAST_LONG else 1

-- the interval that begins at a place with these bytes, or its fault
abbrev pub interval_in : FileVersion → ℕ → List ℕ → Result ℕ IntervalFileFault
interval_in version place bytes =
    if nat_le (least_in version bytes) (ticks_in version bytes) && nat_le (ticks_in version bytes) MAX_INTERVAL
    then Ok (ticks_in version bytes)
    else Err (fault.Interval place)

-- the bytes that a recorder writes for an interval
abbrev pub spelling : FileVersion → ℕ → List ℕ
spelling One x = big_bytes 4 x
spelling Two x = if nat_lt x LEAST_LONG then big_bytes 2 x else 0 ∷ 0 ∷ big_bytes 4 x
