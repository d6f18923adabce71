-- The whole fields of bytes stay if bytes follow, and the later ones come behind them; so do their answers, since
-- a field has one.
use Rattle.std.proofs.Common.{◌≡◌, ℕ, zero, suc, ◌+◌, List, [], ◌∷◌, ◌++◌, drop, refl, sym, ap, ap₂, ◌∙◌, subst, arith}
use Rattle.std.proofs.lemmas.List.{drop-append-le}
use Rattle.vitc_reader.specs.declared.field.FieldAnswer.{FieldAnswer}
use Rattle.vitc_reader.specs.Runs.{IsLineLength}
use Rattle.line_file.specs.declared.decoder.TheConstants.{MAX_FIELDS}
use Rattle.line_file.specs.declared.header.LineHeader.{LineHeader}
use Rattle.line_file.specs.declared.header.TheConstants.{HEADER_LENGTH}
use Rattle.line_file.specs.Answers.{AreAnswers, AreAnswersOf}
use Rattle.line_file.specs.LineFile.{Front, whole, short, bad, header_at, field_at, Fields, field_then, fields_at}
use Rattle.line_file.specs.LineFile.{behind_header, reading_of}
use Rattle.line_file.specs.KeptPieces.{field_width}
use Rattle.line_file.proofs.FieldByField.{fields_by, some_bytes, OneAnswer}
use Rattle.line_file.proofs.HeaderBytes.{header_more, header_valid, whole_header}
use Rattle.line_file.proofs.OwnBytes.{own_field, field_more}

-- the fields of a front come first among all
abbrev ComeFirst : Fields → Fields → Type 0
ComeFirst front all = (rest : List (List (List ℕ))) × (all.fields ≡ front.fields ++ rest)

abbrev after_field : ℕ → ℕ → List ℕ → List (List ℕ) → Fields
after_field left place bytes lines = fields_at left (place + field_width lines) (drop (field_width lines) bytes)

-- a whole field is whole with more bytes too, and if the first is not whole the front has none
stay_by : (left place : ℕ) (bytes more : List ℕ) (v : Front (List (List ℕ))) → field_at place bytes ≡ v
    → ((w : ℕ) → ComeFirst (fields_at left (place + w) (drop w bytes))
    (fields_at left (place + w) (drop w bytes ++ more)))
    → ComeFirst (field_then v (after_field left place bytes)) (fields_at (suc left) place (bytes ++ more))
stay_by left place bytes more (whole lines) is later =
    let w = field_width lines in
    let within = (own_field place bytes lines is).within in
    let all = field_more place bytes more lines is in
    let next = fields_by left place (bytes ++ more) (whole lines) (some_bytes place (bytes ++ more) lines all) all in
    let others = later w in (
      others.0,
      ap (λ (f : Fields). f.fields) next
          ∙ ap (λ (l : List ℕ). lines ∷ (fields_at left (place + w) l).fields) (drop-append-le w bytes more within)
          ∙ ap (λ (fields : List (List (List ℕ))). lines ∷ fields) others.1,
    )
stay_by left place bytes more short is later = ((fields_at (suc left) place (bytes ++ more)).fields, refl)
stay_by left place bytes more (bad f) is later = ((fields_at (suc left) place (bytes ++ more)).fields, refl)

fields-stay : (left place : ℕ) (bytes more : List ℕ)
    → ComeFirst (fields_at left place bytes) (fields_at left place (bytes ++ more))
unfolding fields_at
fields-stay left place [] more = ((fields_at left place more).fields, refl)
fields-stay zero place (byte ∷ rest) more = ([], refl)
fields-stay (suc left) place (byte ∷ rest) more =
    stay_by left place (byte ∷ rest) more (field_at place (byte ∷ rest)) refl
    (λ w. fields-stay left (place + w) (drop w (byte ∷ rest)) more)

-- the answers of some fields come first among those of more
answers_first : OneAnswer → (header : LineHeader) (fields rest : List (List (List ℕ))) (answers all : List FieldAnswer)
    → IsLineLength header.length
    → AreAnswers header fields answers → AreAnswers header (fields ++ rest) all → (more : List FieldAnswer)
    × (all ≡ answers ++ more)
answers_first law header [] rest [] all valid x y = (all, refl)
answers_first law header [] rest (a ∷ answers) all valid x y = absurd x
answers_first law header (f ∷ fields) rest [] all valid x y = absurd x
answers_first law header (f ∷ fields) rest (a ∷ answers) [] valid x y = absurd y
answers_first law header (f ∷ fields) rest (a ∷ answers) (b ∷ all) valid x y =
    let others = answers_first law header fields rest answers all valid x.1 y.1 in (
      others.0,
      ap₂ (λ (z : FieldAnswer) (zs : List FieldAnswer). z ∷ zs)
          (law header.system header.length f b a valid y.0 x.0) others.1,
    )

-- if no header is whole there is no answer yet
stay_behind : OneAnswer → (bytes more : List ℕ) (v : Front LineHeader) (answers all : List FieldAnswer)
    → header_at bytes ≡ v
    → AreAnswersOf (behind_header v bytes) answers → AreAnswersOf (reading_of (bytes ++ more)) all
    → (rest : List FieldAnswer) × (all ≡ answers ++ rest)
stay_behind law bytes more (whole header) answers all is x y =
    let least = whole_header bytes header is in
    let behind = drop-append-le HEADER_LENGTH bytes more (omega (arith, least)) in
    let stay = fields-stay MAX_FIELDS HEADER_LENGTH (drop HEADER_LENGTH bytes) more in
    let same = ap (λ (l : List ℕ). (fields_at MAX_FIELDS HEADER_LENGTH l).fields) behind ∙ stay.1 in
    let read = subst (λ (v : Front LineHeader). AreAnswersOf (behind_header v (bytes ++ more)) all)
    (header_more bytes more header is) y in
    answers_first law header _ stay.0 answers all (header_valid bytes header is).1 x
    (subst (λ (fields : List (List (List ℕ))). AreAnswers header fields all) same read)
stay_behind law bytes more short answers all is x y = (all, ap (λ (l : List FieldAnswer). l ++ all) (sym x))
stay_behind law bytes more (bad f) answers all is x y = (all, ap (λ (l : List FieldAnswer). l ++ all) (sym x))

pub answers-stay : OneAnswer → (bytes more : List ℕ) (answers all : List FieldAnswer)
    → AreAnswersOf (reading_of bytes) answers
    → AreAnswersOf (reading_of (bytes ++ more)) all → (rest : List FieldAnswer) × (all ≡ answers ++ rest)
answers-stay law bytes more answers all x y = stay_behind law bytes more (header_at bytes) answers all refl x y
