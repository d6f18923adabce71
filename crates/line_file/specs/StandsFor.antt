-- Which bytes a decoder of a line file stands for. No promise but its clauses speaks of it.
use Rattle.std.specs.Prelude.{◌≡◌, ⊤, ℕ, ◌+◌, ◌-◌, ◌*◌, ◌<◌, ◌≤◌, List, [], ◌∷◌, ◌++◌, length, take}
use Rattle.std.specs.Prelude.{Option, Some, None, IfNone, IfSome}
use Rattle.vitc_reader.specs.declared.field.FieldAnswer.{FieldAnswer}
use Rattle.line_file.specs.declared.decoder.TheConstants.{FIELD_ROOM, MAX_FIELDS}
use Rattle.line_file.specs.declared.header.LineHeader.{LineHeader}
use Rattle.line_file.specs.declared.header.TheConstants.{HEADER_LENGTH}
use Rattle.tc_io.specs.Verdict.{Verdict, good, refused, past_limit}
use Rattle.line_file.specs.declared.decoder.Taken.{Taken}
use Rattle.line_file.specs.declared.decoder.Taken.TheVariants.{Few, Header, Field, Fault, Limit}
use Rattle.line_file.specs.Answers.{AreAnswers, AreAnswersOf}
use Rattle.line_file.specs.LineFile.{Reading, reading_of, fields_at, field_at, header_at, short}
use Rattle.line_file.specs.KeptPieces.{with_fields}
use Rattle.line_file.specs.LineHeader.{IsHeader}
use Rattle.file_faults.specs.declared.lines.LineFileFault.{LineFileFault}

-- how far a decoder has come: the header, the place behind the bytes that were taken, and the number of fields in them
pub record Decoding : Type 0 where
  pub header : Option LineHeader
  pub place : ℕ
  pub fields : ℕ

-- a decoder, by its parts
abbrev pub decoding_of : Option LineHeader → ℕ → ℕ → Decoding
decoding_of header place fields = record { header = header; place = place; fields = fields }

-- of no bytes
abbrev pub no_decoding : Decoding
no_decoding = decoding_of None 0 0

-- what bytes say that stand behind those that were taken
abbrev pub reading_behind : Option LineHeader → ℕ → ℕ → List (List (List ℕ)) → List ℕ → Reading
reading_behind None place count fields more = reading_of more
reading_behind (Some header) place count fields more =
    with_fields header fields (fields_at (MAX_FIELDS - count) place more)

-- before the header nothing was taken, and the fields account for the bytes
pub record IsDecoding (d : Decoding) : Type 0 where
  pub header : IfSome d.header IsHeader
  pub begin : IfNone d.header (d.place ≡ 0)
  pub within : d.fields ≤ MAX_FIELDS
  pub bytes : d.place ≤ HEADER_LENGTH + FIELD_ROOM * d.fields

-- the whole fields have these answers
abbrev pub AreAnswered : Option LineHeader → List (List (List ℕ)) → List FieldAnswer → Type 0
AreAnswered None fields answers = (fields ≡ []) × (answers ≡ [])
AreAnswered (Some header) fields answers = AreAnswers header fields answers

-- the decoder took these bytes, and gave these answers
pub record StandsFor (d : Decoding) (bytes : List ℕ) (answers : List FieldAnswer) : Type 0 where
  pub fields : List (List (List ℕ))
  pub place : d.place ≡ length bytes
  pub count : d.fields ≡ length fields
  pub follows : (more : List ℕ) → reading_of (bytes ++ more) ≡ reading_behind d.header d.place d.fields fields more
  pub answered : AreAnswered d.header fields answers

-- ---- what a call answers

-- the fields are within the limit, and account for the bytes
abbrev pub FitsFields : Decoding → Type 0
FitsFields d = (d.fields ≤ MAX_FIELDS) × (d.place ≤ HEADER_LENGTH + FIELD_ROOM * d.fields)

-- this many of the bytes were taken, and these answers given
pub record Adds (old new : Decoding) (bytes : List ℕ) (count : ℕ) (more : List FieldAnswer) : Type 0 where
  pub some : 1 ≤ count
  pub within : count ≤ length bytes
  pub taken : new.place ≡ old.place + count
  pub fields : new.fields ≡ old.fields + length more
  pub stands : (front : List ℕ) (answers : List FieldAnswer) → StandsFor old front answers
      → StandsFor new (front ++ take count bytes) (answers ++ more)

-- a header or a field begins with these bytes, and is not whole
abbrev pub IsShort : Option LineHeader → ℕ → ℕ → List ℕ → Type 0
IsShort None place count bytes = header_at bytes ≡ short
IsShort (Some header) place count bytes = (count < MAX_FIELDS) × (field_at place bytes ≡ short)

-- the same of the next bytes of a decoder
pub record IsCut (d : Decoding) (bytes : List ℕ) : Type 0 where
  pub some : 1 ≤ length bytes
  pub few : length bytes < FIELD_ROOM
  pub short : IsShort d.header d.place d.fields bytes

-- what was taken adds to the bytes of the decoder; and a cut piece, a fault and the limit leave it as it was
abbrev pub AddsTaken : Decoding → Decoding → List ℕ → Taken → Type 0
AddsTaken old new bytes Few = (new ≡ old) × IsCut old bytes
AddsTaken old new bytes (Header count) = Adds old new bytes count []
AddsTaken old new bytes (Field count answer) = Adds old new bytes count (answer ∷ [])
AddsTaken old new bytes (Fault f) = new ≡ old
AddsTaken old new bytes Limit = new ≡ old

-- what was read shows this, and the fields have these answers
abbrev pub IsTold : Reading → Verdict LineFileFault → List FieldAnswer → Type 0
IsTold r verdict answers = (r.verdict ≡ verdict) × AreAnswersOf r answers

-- bytes of which none were taken: those that are too few say nothing more, and others end the reading
abbrev pub StopsAt : List ℕ → List FieldAnswer → Taken → Type 0
StopsAt bytes answers Few = IsTold (reading_of bytes) good answers
StopsAt bytes answers (Header count) = ⊤
StopsAt bytes answers (Field count answer) = ⊤
StopsAt bytes answers (Fault f) = IsTold (reading_of bytes) (refused f) answers
StopsAt bytes answers Limit = IsTold (reading_of bytes) past_limit answers
