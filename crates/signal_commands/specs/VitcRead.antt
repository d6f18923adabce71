-- `vitc-read`: the answer of each field of a line file, a line each.
use Rattle.std.specs.Option.{option_map}
use Rattle.std.specs.Prelude.{◌≡◌, ⊤, ℕ, ◌+◌, ◌≤◌, Bool, true, false, List, [], ◌∷◌, ◌++◌, length, count_by}
use Rattle.vitc_reader.specs.declared.field.FieldAnswer.{FieldAnswer}
use Rattle.vitc_reader.specs.declared.field.FieldAnswer.TheVariants.{NoLine, Agreed, Conflict, Nothing}
use Rattle.vitc_reader.specs.Agreement.{SaysOf}
use Rattle.line_file.specs.declared.decoder.TheConstants.{MAX_FIELDS}
use Rattle.line_file.specs.declared.header.LineHeader.{LineHeader}
use Rattle.line_file.specs.Answers.{AreAnswersOf}
use Rattle.line_file.specs.Grammar.{file_of, AreFields}
use Rattle.line_file.specs.LineFile.{reading_of, end_fault_of}
use Rattle.line_file.specs.LineHeader.{IsHeader}
use Rattle.line_file.specs.Texts.{field_line, field_end_line}
use Rattle.tc_command.specs.declared.input_fault.InputFault.TheVariants.{Lines}
use Rattle.tc_command.specs.Meaning.{Meaning}
use Rattle.tc_io.specs.Verdict.{verdict_as}
use Rattle.tc_command.specs.Told.{Told}

-- the lines of answers, the first of which is that of the field with this number
abbrev pub answer_lines : ℕ → List FieldAnswer → List ℕ
answer_lines field [] = []
answer_lines field (answer ∷ answers) = field_line field answer ++ answer_lines (field + 1) answers

-- all lines of the field that say a word say the same one
abbrev pub is_agreed : FieldAnswer → Bool
is_agreed (Agreed word) = true
is_agreed answer = false

-- two lines of the field say different words
abbrev pub is_conflict : FieldAnswer → Bool
is_conflict (Conflict word other) = true
is_conflict answer = false

-- a field without lines says nothing, and so does one of which no line says a word
abbrev pub is_nothing : FieldAnswer → Bool
is_nothing NoLine = true
is_nothing (Nothing fault) = true
is_nothing answer = false

-- the last line counts the fields, and those of each kind
abbrev pub last_field_line : List FieldAnswer → List ℕ
last_field_line answers = field_end_line (length answers) (count_by is_agreed answers) (count_by is_conflict answers)
    (count_by is_nothing answers)

-- the lines of the fields, and the last line
abbrev pub field_report : List FieldAnswer → List ℕ
field_report answers = answer_lines 0 answers ++ last_field_line answers

-- what it takes and what it writes
abbrev pub along_fields : Meaning
along_fields = record {
  reads = true;
  verdict = λ bytes. verdict_as Lines (reading_of bytes).verdict;
  end_fault = λ bytes. option_map Lines (end_fault_of bytes);
  spent = λ bytes. ⊥;
  part = λ bytes written. (answers : List FieldAnswer) × AreAnswersOf (reading_of bytes) answers
      × (written ≡ answer_lines 0 answers);
  output = λ bytes written. (answers : List FieldAnswer) × AreAnswersOf (reading_of bytes) answers
      × (written ≡ field_report answers);
}

-- ---- what is promised

-- the answer says of the lines of a field what they are, and no other answer does
pub record TellsTheField (header : LineHeader) (lines : List (List ℕ)) (answer : FieldAnswer) : Type 0 where
  pub says : SaysOf header.system header.length lines answer
  pub only : (other : FieldAnswer) → SaysOf header.system header.length lines other → other ≡ answer

-- each answer is that of the field at its place
abbrev pub TellTheFields : LineHeader → List (List (List ℕ)) → List FieldAnswer → Type 0
TellTheFields header [] [] = ⊤
TellTheFields header [] (answer ∷ answers) = ⊥
TellTheFields header (lines ∷ fields) [] = ⊥
TellTheFields header (lines ∷ fields) (answer ∷ answers) =
    TellsTheField header lines answer × TellTheFields header fields answers

-- the input is the file of a header and fields, and each field has its answer: the word on which its lines agree, the
-- words of the first two that differ, or the fault of the first one. What was written are the lines of these answers,
-- and the last line, which counts them. The number in the line of a field is its place, from 0
pub record ReadsTheFields (bytes written : List ℕ) : Type 0 where
  pub header : LineHeader
  pub header_is : IsHeader header
  pub fields : List (List (List ℕ))
  pub fields_are : AreFields fields
  pub few : length fields ≤ MAX_FIELDS
  pub file : bytes ≡ file_of header fields
  pub answers : List FieldAnswer
  pub tell : TellTheFields header fields answers
  pub are : written ≡ field_report answers
  pub numbered : (before after : List FieldAnswer) (answer : FieldAnswer) → answers ≡ before ++ (answer ∷ after)
      → written ≡ answer_lines 0 before ++ (field_line (length before) answer
      ++ (answer_lines (length before + 1) after ++ last_field_line answers))

-- what is told of it
abbrev pub told_vitc_read : Told
told_vitc_read = record { meaning = along_fields; promise = ReadsTheFields; has_own_limit = false }
