-- The line file as a whole text, as its table says it, piece after piece: the bytes of the head one by one, the line
-- length, and then for each field its number of lines, for each line its number of runs, and each run. The first whole
-- piece that fails its test is the fault. This project's own.
use Rattle.std.specs.Prelude.{ℕ, zero, suc, ◌+◌, ◌*◌, ◌%◌, Bool, true, false, not, ◌&&◌, ◌==◌, nat_lt, nat_le, is_some}
use Rattle.std.specs.Prelude.{if◌then◌else◌, List, [], ◌∷◌}
use Rattle.std.specs.Prelude.{length, drop, slice_index, Option, Some, None}
use Rattle.byteorder.specs.Endian.{big_number}
use Rattle.tc_address.specs.declared.system.System.{System}
use Rattle.file_faults.specs.declared.lines.LineFileFault.{LineFileFault}
use Rattle.file_faults.specs.declared.lines.LineFileFault.TheVariants as fault
use Rattle.tc_io.specs.Verdict.{Verdict, good, refused, past_limit}
use Rattle.line_file.specs.declared.decoder.TheConstants.{MAX_FIELDS}
use Rattle.line_file.specs.declared.field.TheConstants.{MAX_LINES, MAX_RUNS}
use Rattle.line_file.specs.declared.header.LineHeader.{LineHeader}
use Rattle.line_file.specs.declared.header.TheConstants.{MAGIC, VERSION, HEAD_LENGTH, HEADER_LENGTH}
use Rattle.vitc_reader.specs.declared.line_length.TheConstants.{MIN_LINE_LENGTH, MAX_LINE_LENGTH}
use Rattle.line_file.specs.LineHeader.{system_at}

-- what stands at the front of bytes: a whole thing, the first bytes of one, or a piece that fails its test
pub data Front (A : Type 0) : Type 0 where
  whole : A → Front A
  short : Front A
  bad : LineFileFault → Front A

-- what follows from a whole thing
abbrev pub and_then : {A B : Type 0} → Front A → (A → Front B) → Front B
and_then (whole first) next = next first
and_then short next = short
and_then (bad f) next = bad f

-- ---- the header

-- a byte of the head is not the one that its place asks for
abbrev pub is_wrong : ℕ → ℕ → Bool
is_wrong place byte =
    if nat_lt place 4 then not (byte == slice_index MAGIC place)
    else if place == 4 then not (byte == VERSION)
    else if place == 5 then not (is_some (system_at byte))
    else not (byte == 0)

-- the fault of each place of the head
abbrev pub head_fault : ℕ → LineFileFault
head_fault place =
    if nat_lt place 4 then fault.Magic place
    else if place == 4 then fault.Version place
    else if place == 5 then fault.System place
    else fault.Reserved place

-- this many bytes of the head from a place on, each judged by itself
abbrev pub head_at : ℕ → ℕ → List ℕ → Front (Unit {0})
head_at zero place bytes = whole tt
head_at (suc count) place [] = short
head_at (suc count) place (byte ∷ more) =
    if is_wrong place byte then bad (head_fault place) else head_at count (place + 1) more

-- the header of a system with a line length
abbrev pub header_with : Option System → ℕ → Front LineHeader
header_with None n = bad (fault.LineLength HEAD_LENGTH)
header_with (Some system) n =
    if nat_le MIN_LINE_LENGTH n && nat_le n MAX_LINE_LENGTH then whole (record { system = system; length = n })
    else bad (fault.LineLength HEAD_LENGTH)

-- the line length, four bytes behind the head
abbrev pub length_at : Option System → List ℕ → Front LineHeader
length_at system (a ∷ b ∷ c ∷ d ∷ more) = header_with system (big_number 4 (a ∷ b ∷ c ∷ d ∷ more))
length_at system _ = short

-- the header, which stands at the front of a file
abbrev pub header_at : List ℕ → Front LineHeader
header_at bytes =
    and_then (head_at HEAD_LENGTH 0 bytes) (λ _. length_at (system_at (slice_index bytes 5)) (drop HEAD_LENGTH bytes))

-- ---- a field

-- this many runs: two bytes each, the most significant one first, and a tick or more
abbrev pub runs_at : ℕ → ℕ → List ℕ → Front (List ℕ)
runs_at zero place bytes = whole []
runs_at (suc count) place (high ∷ low ∷ more) =
    if big_number 2 (high ∷ low ∷ more) == 0 then bad (fault.Run place)
    else and_then (runs_at count (place + 2) more) (λ runs. whole (big_number 2 (high ∷ low ∷ more) ∷ runs))
runs_at (suc count) place _ = short

-- a line: its number of runs, which is odd and not too great, and its runs
abbrev pub line_at : ℕ → List ℕ → Front (List ℕ)
line_at place [] = short
line_at place (count ∷ more) =
    if (count % 2 == 1) && nat_le count MAX_RUNS then runs_at count (place + 1) more else bad (fault.RunCount place)

-- how many bytes a line has
abbrev pub line_width : List ℕ → ℕ
line_width runs = 1 + 2 * length runs

-- this many lines
abbrev pub lines_at : ℕ → ℕ → List ℕ → Front (List (List ℕ))
lines_at zero place bytes = whole []
lines_at (suc count) place bytes =
    and_then (line_at place bytes) (λ runs.
    and_then (lines_at count (place + line_width runs) (drop (line_width runs) bytes)) (λ lines. whole (runs ∷ lines)))

-- a field: its number of lines, and its lines
abbrev pub field_at : ℕ → List ℕ → Front (List (List ℕ))
field_at place [] = short
field_at place (count ∷ more) =
    if nat_le count MAX_LINES then lines_at count (place + 1) more else bad (fault.LineCount place)

-- how many bytes lines have; a field has one more
abbrev pub lines_width : List (List ℕ) → ℕ
lines_width [] = 0
lines_width (runs ∷ lines) = line_width runs + lines_width lines

-- ---- the file

-- the whole fields before a fault and within the limit, what the bytes show, and whether they end behind a whole field
pub record Fields : Type 0 where
  pub fields : List (List (List ℕ))
  pub verdict : Verdict LineFileFault
  pub is_whole : Bool

-- a field, and those that follow it
abbrev pub field_then : Front (List (List ℕ)) → (List (List ℕ) → Fields) → Fields
field_then (whole lines) next = let f = next lines in record f { fields = lines ∷ f.fields }
field_then short next = record { fields = []; verdict = good; is_whole = false }
field_then (bad f) next = record { fields = []; verdict = refused f; is_whole = false }

-- the fields from a place on, at most this many: of a byte behind them nothing is asked
unfoldable pub fields_at : ℕ → ℕ → List ℕ → Fields
fields_at left place [] = record { fields = []; verdict = good; is_whole = true }
fields_at zero place (byte ∷ more) = record { fields = []; verdict = past_limit; is_whole = false }
fields_at (suc left) place (byte ∷ more) =
    field_then (field_at place (byte ∷ more))
    (λ lines. fields_at left (place + (1 + lines_width lines)) (drop (1 + lines_width lines) (byte ∷ more)))

-- what bytes say of a line file, as far as they go
pub record Reading : Type 0 where
  pub header : Option LineHeader
  pub fields : List (List (List ℕ))
  pub verdict : Verdict LineFileFault
  pub is_whole : Bool

-- without a whole header there is no field
abbrev pub behind_header : Front LineHeader → List ℕ → Reading
behind_header (whole header) bytes = let f = fields_at MAX_FIELDS HEADER_LENGTH (drop HEADER_LENGTH bytes) in
    record { header = Some header; fields = f.fields; verdict = f.verdict; is_whole = f.is_whole }
behind_header short bytes = record { header = None; fields = []; verdict = good; is_whole = false }
behind_header (bad f) bytes = record { header = None; fields = []; verdict = refused f; is_whole = false }

-- what bytes say of a line file, from the first byte on
abbrev pub reading_of : List ℕ → Reading
reading_of bytes = behind_header (header_at bytes) bytes

-- the fault of bytes after which the input may not end: it may end behind the header and behind each whole field
abbrev pub end_fault_of : List ℕ → Option LineFileFault
end_fault_of bytes = if (reading_of bytes).is_whole then None else Some (fault.Truncated (length bytes))
