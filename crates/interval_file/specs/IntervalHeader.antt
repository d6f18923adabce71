-- The header of an interval file.
use Rattle.std.specs.Prelude.{ℕ, ◌≤◌, List, [], ◌∷◌, ◌++◌, Option, find, ◌==◌}
use Rattle.byteorder.specs.Endian.{big_bytes}
use Rattle.tc_address.specs.declared.system.System.{System}
use Rattle.tc_address.specs.declared.system.System.TheVariants.{F24, F25, F30}
use Rattle.tc_address.specs.Count.{rate_of}
use Rattle.interval_file.specs.declared.header.FileVersion.{FileVersion}
use Rattle.interval_file.specs.declared.header.FileVersion.TheVariants.{One, Two}
use Rattle.interval_file.specs.declared.header.IntervalHeader.{IntervalHeader}
use Rattle.interval_file.specs.declared.header.TheConstants.{MAGIC, VERSION_ONE, VERSION_TWO}
use Rattle.limits.specs.declared.recording.TheConstants.{MAX_TICK_RATE}

-- a tick rate that a recording may have
abbrev pub IsTickRate : ℕ → Type 0
IsTickRate rate = (1 ≤ rate) × (rate ≤ MAX_TICK_RATE)

-- the version as it stands in the header
abbrev pub version_byte : FileVersion → ℕ
version_byte One = VERSION_ONE
version_byte Two = VERSION_TWO

-- the version that stands as a number in the header
abbrev pub version_at : ℕ → Option FileVersion
version_at byte = find (λ version. byte == version_byte version) (One ∷ Two ∷ [])

-- the system whose rate stands as a number in the header
abbrev pub system_at : ℕ → Option System
system_at byte = find (λ system. byte == rate_of system) (F24 ∷ F25 ∷ F30 ∷ [])

-- the bytes of a header
abbrev pub header_bytes : IntervalHeader → List ℕ
header_bytes header =
    MAGIC ++ version_byte header.version ∷ rate_of header.system ∷ 0 ∷ 0 ∷ big_bytes 4 header.tick_rate
