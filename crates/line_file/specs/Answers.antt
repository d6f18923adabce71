-- The answers of the fields of a line file.
use Rattle.std.specs.Prelude.{◌≡◌, ⊤, ℕ, List, [], ◌∷◌, Option, Some, None}
use Rattle.vitc_reader.specs.declared.field.FieldAnswer.{FieldAnswer}
use Rattle.vitc_reader.specs.Field.{IsAnswer}
use Rattle.line_file.specs.declared.header.LineHeader.{LineHeader}
use Rattle.line_file.specs.LineFile.{Reading}

-- each field has its answer
abbrev pub AreAnswers : LineHeader → List (List (List ℕ)) → List FieldAnswer → Type 0
AreAnswers header [] [] = ⊤
AreAnswers header [] (answer ∷ answers) = ⊥
AreAnswers header (lines ∷ fields) [] = ⊥
AreAnswers header (lines ∷ fields) (answer ∷ answers) =
    IsAnswer header.system header.length lines answer × AreAnswers header fields answers

-- without a header there is no field
abbrev pub AreAnswersBehind : Option LineHeader → List (List (List ℕ)) → List FieldAnswer → Type 0
AreAnswersBehind None fields answers = answers ≡ []
AreAnswersBehind (Some header) fields answers = AreAnswers header fields answers

-- the answers of what was read
abbrev pub AreAnswersOf : Reading → List FieldAnswer → Type 0
AreAnswersOf r answers = AreAnswersBehind r.header r.fields answers
