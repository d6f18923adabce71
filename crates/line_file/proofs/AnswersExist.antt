-- The lines of a field have an answer, so all fields of what was read have.
use Rattle.std.proofs.Common.{◌≡◌, ℕ, List, [], ◌∷◌, refl}
use Rattle.tc_address.specs.declared.system.System.{System}
use Rattle.vitc_reader.specs.declared.field.FieldAnswer.{FieldAnswer}
use Rattle.vitc_reader.specs.Field.{IsAnswer}
use Rattle.vitc_reader.specs.Runs.{IsLineLength}
use Rattle.line_file.specs.declared.header.LineHeader.{LineHeader}
use Rattle.line_file.specs.Answers.{AreAnswers, AreAnswersOf}
use Rattle.line_file.specs.LineFile.{Front, whole, short, bad, behind_header, header_at, reading_of}
use Rattle.line_file.proofs.HeaderBytes.{header_valid}

-- what the law of lines says
abbrev pub LinesHaveAnswers : Type 0
LinesHaveAnswers = (system : System) (n : ℕ) (lines : List (List ℕ)) → IsLineLength n → (answer : FieldAnswer)
    × IsAnswer system n lines answer

some_list : LinesHaveAnswers → (header : LineHeader) (fields : List (List (List ℕ))) → IsLineLength header.length
    → (answers : List FieldAnswer) × AreAnswers header fields answers
some_list law header [] valid = ([], tt)
some_list law header (lines ∷ fields) valid =
    let first = law header.system header.length lines valid in
    let more = some_list law header fields valid in
    (first.0 ∷ more.0, (first.1, more.1))

some_list_by : LinesHaveAnswers → (bytes : List ℕ) (v : Front LineHeader) → header_at bytes ≡ v
    → (answers : List FieldAnswer) × AreAnswersOf (behind_header v bytes) answers
some_list_by law bytes (whole header) is = some_list law header _ (header_valid bytes header is).1
some_list_by law bytes short is = ([], refl)
some_list_by law bytes (bad f) is = ([], refl)

pub some_list_of : LinesHaveAnswers → (bytes : List ℕ) → (answers : List FieldAnswer)
    × AreAnswersOf (reading_of bytes) answers
some_list_of law bytes = some_list_by law bytes (header_at bytes) refl
