-- What the code finds at the front of bytes, as the definitions say it. No promise speaks of it.
use Rattle.std.specs.Prelude.{◌≡◌, ℕ, ◌*◌, List, take, drop, slice_index}
use Rattle.vitc_reader.specs.Field.{IsAnswer}
use Rattle.vitc_reader.specs.Runs.{runs_of_bytes}
use Rattle.line_file.specs.declared.field.FoundField.{FoundField}
use Rattle.line_file.specs.declared.field.FoundField.TheVariants as fields
use Rattle.line_file.specs.declared.found.Found.{Found}
use Rattle.line_file.specs.declared.found.Found.TheVariants as things
use Rattle.line_file.specs.declared.header.FoundHeader.{FoundHeader}
use Rattle.line_file.specs.declared.header.FoundHeader.TheVariants as headers
use Rattle.line_file.specs.declared.header.LineHeader.{LineHeader}
use Rattle.line_file.specs.LineFile.{Front, whole, short, bad, field_at}
use Rattle.line_file.specs.KeptPieces.{field_width}

-- a thing that was found, with what it says
abbrev pub front_of : {A : Type 0} → Found → A → Front A
front_of things.Whole says = whole says
front_of things.Short says = short
front_of (things.Fault f) says = bad f

-- a header at the front, as the code finds it and as the definitions say it
abbrev pub header_front : FoundHeader → Front LineHeader
header_front (headers.Whole header) = whole header
header_front headers.Short = short
header_front (headers.Fault f) = bad f

-- this many runs that come behind the first byte
abbrev pub runs_behind : ℕ → List ℕ → List ℕ
runs_behind count bytes = runs_of_bytes (take (2 * count) (drop 1 bytes))

-- the runs of the line with which bytes begin, where it is whole
abbrev pub line_of : List ℕ → List ℕ
line_of bytes = runs_behind (slice_index bytes 0) bytes

-- a field that was found, with its answer
abbrev pub IsFoundField : LineHeader → ℕ → List ℕ → FoundField → Type 0
IsFoundField header place bytes (fields.Whole answer width) =
    (lines : List (List ℕ)) × (field_at place bytes ≡ whole lines) × (width ≡ field_width lines)
    × IsAnswer header.system header.length lines answer
IsFoundField header place bytes fields.Short = field_at place bytes ≡ short
IsFoundField header place bytes (fields.Fault f) = field_at place bytes ≡ bad f
