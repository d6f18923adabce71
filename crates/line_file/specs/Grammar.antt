-- The line file as it is written: a header, and then the bytes of each field, one after another.
use Rattle.std.specs.Prelude.{⊤, ℕ, ◌<◌, ◌≤◌, List, [], ◌∷◌, ◌++◌, length}
use Rattle.std.specs.List.{flat_map}
use Rattle.byteorder.specs.Endian.{big_bytes}
use Rattle.vitc_reader.specs.Runs.{MayBeLine}
use Rattle.line_file.specs.declared.field.TheConstants.{MAX_LINES}
use Rattle.line_file.specs.declared.header.LineHeader.{LineHeader}
use Rattle.line_file.specs.LineHeader.{header_bytes}

-- a line: its number of runs, and its runs
abbrev pub line_bytes : List ℕ → List ℕ
line_bytes runs = length runs ∷ flat_map (big_bytes 2) runs

-- a field: its number of lines, and its lines
abbrev pub field_bytes : List (List ℕ) → List ℕ
field_bytes lines = length lines ∷ flat_map line_bytes lines

-- the bytes of a file
abbrev pub file_of : LineHeader → List (List (List ℕ)) → List ℕ
file_of header fields = header_bytes header ++ flat_map field_bytes fields

-- each run lasts a tick or more, and fits two bytes
abbrev pub AreRuns : List ℕ → Type 0
AreRuns [] = ⊤
AreRuns (run ∷ runs) = (1 ≤ run) × (run < 65536) × AreRuns runs

-- each line has an odd number of runs, and not too many
abbrev pub AreLines : List (List ℕ) → Type 0
AreLines [] = ⊤
AreLines (runs ∷ lines) = MayBeLine runs × AreRuns runs × AreLines lines

-- each field has not too many lines
abbrev pub AreFields : List (List (List ℕ)) → Type 0
AreFields [] = ⊤
AreFields (lines ∷ fields) = (length lines ≤ MAX_LINES) × AreLines lines × AreFields fields
