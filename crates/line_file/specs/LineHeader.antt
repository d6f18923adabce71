-- The header of a line file, as it is written.
use Rattle.std.specs.Prelude.{ℕ, List, [], ◌∷◌, ◌++◌, Option, find, ◌==◌}
use Rattle.byteorder.specs.Endian.{big_bytes}
use Rattle.tc_address.specs.declared.system.System.{System}
use Rattle.tc_address.specs.declared.system.System.TheVariants.{F25, F30}
use Rattle.tc_address.specs.Count.{rate_of}
use Rattle.vitc_line.specs.Places.{HasLines}
use Rattle.vitc_reader.specs.Runs.{IsLineLength}
use Rattle.line_file.specs.declared.header.LineHeader.{LineHeader}
use Rattle.line_file.specs.declared.header.TheConstants.{MAGIC, VERSION}

-- pictures that have lines of time code, and a length that a line may have
abbrev pub IsHeader : LineHeader → Type 0
IsHeader header = HasLines header.system × IsLineLength header.length

-- the system whose rate stands as a number in the header
abbrev pub system_at : ℕ → Option System
system_at byte = find (λ system. byte == rate_of system) (F25 ∷ F30 ∷ [])

-- the bytes of a header
abbrev pub header_bytes : LineHeader → List ℕ
header_bytes header = MAGIC ++ VERSION ∷ rate_of header.system ∷ 0 ∷ 0 ∷ big_bytes 4 header.length
