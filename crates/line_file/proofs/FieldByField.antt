-- What bytes show of a file, more bytes show too; and behind whole pieces the rest is read as if it began there.
use Rattle.std.proofs.Common.{ap₂, ◌≡◌, ℕ, zero, suc, ◌+◌, ◌≤◌, List, [], ◌∷◌, ◌++◌, length, take, drop, refl, sym, ap}
use Rattle.std.proofs.Common.{◌∙◌, arith}
use Rattle.std.proofs.lemmas.List.{length-take-le, drop_at, drop-append-le}
use Rattle.file_faults.specs.declared.lines.LineFileFault.{LineFileFault}
use Rattle.tc_io.specs.Verdict.{Verdict, good, refused, past_limit}
use Rattle.vitc_reader.specs.declared.field.FieldAnswer.{FieldAnswer}
use Rattle.tc_address.specs.declared.system.System.{System}
use Rattle.vitc_reader.specs.Field.{IsAnswer}
use Rattle.vitc_reader.specs.Runs.{IsLineLength}
use Rattle.line_file.specs.declared.decoder.TheConstants.{MAX_FIELDS}
use Rattle.line_file.specs.declared.header.LineHeader.{LineHeader}
use Rattle.line_file.specs.declared.header.TheConstants.{HEADER_LENGTH}
use Rattle.line_file.specs.Answers.{AreAnswers, AreAnswersOf}
use Rattle.line_file.specs.LineFile.{Front, whole, short, bad, header_at, field_at, Fields, field_then, fields_at}
use Rattle.line_file.specs.KeptPieces.{field_width, with_field}
use Rattle.line_file.specs.LineFile.{behind_header, reading_of}
use Rattle.line_file.proofs.FaultsStay.{field_stays}
use Rattle.line_file.proofs.HeaderBytes.{header_valid, header_more, header_stays, whole_header}
use Rattle.line_file.proofs.OwnBytes.{own_field, field_more}

-- ---- one field, and those that follow it

abbrev after_field : ℕ → ℕ → List ℕ → List (List ℕ) → Fields
after_field left place bytes lines = fields_at left (place + field_width lines) (drop (field_width lines) bytes)

pub fields_by : (left place : ℕ) (bytes : List ℕ) (v : Front (List (List ℕ))) → 1 ≤ length bytes
    → field_at place bytes ≡ v
    → fields_at (suc left) place bytes ≡ field_then v (after_field left place bytes)
unfolding fields_at
fields_by left place [] v some is = absurd (omega (arith, some))
fields_by left place (byte ∷ more) v some is = rw is refl

pub some_bytes : (place : ℕ) (bytes : List ℕ) (lines : List (List ℕ)) → field_at place bytes ≡ whole lines
    → 1 ≤ length bytes
some_bytes place [] lines e = absurd cc
some_bytes place (byte ∷ more) lines e = omega arith

-- behind the bytes of a field
pub fields_behind : (left place : ℕ) (bytes more : List ℕ) (lines : List (List ℕ)) → field_at place bytes ≡ whole lines
    → fields_at (suc left) place (take (field_width lines) bytes ++ more) ≡ with_field lines
    (fields_at left (place + field_width lines) more)
fields_behind left place bytes more lines e =
    let w = field_width lines in
    let o = own_field place bytes lines e in
    let here = o.own more in
    let gone = drop_at (take w bytes) more w (length-take-le w bytes o.within) in
    fields_by left place (take w bytes ++ more) (whole lines) (some_bytes place (take w bytes ++ more) lines here) here
    ∙ ap (λ (l : List ℕ). with_field lines (fields_at left (place + w) l)) gone

-- ---- what bytes show, more bytes show

stay_by : (left place : ℕ) (bytes more : List ℕ) (verdict : Verdict LineFileFault) (v : Front (List (List ℕ)))
    → (verdict ≡ good → ⊥) → 1 ≤ length bytes
    → field_at place bytes ≡ v
    → (field_then v (after_field left place bytes)).verdict ≡ verdict
    → ((w : ℕ) → (fields_at left (place + w) (drop w bytes)).verdict ≡ verdict
    → (fields_at left (place + w) (drop w bytes ++ more)).verdict ≡ verdict)
    → (fields_at (suc left) place (bytes ++ more)).verdict ≡ verdict
stay_by left place bytes more verdict (whole lines) not_good some is e later =
    let w = field_width lines in
    let within = (own_field place bytes lines is).within in
    let all = field_more place bytes more lines is in
    let next = fields_by left place (bytes ++ more) (whole lines) (some_bytes place (bytes ++ more) lines all) all in
    ap (λ (f : Fields). f.verdict) next ∙ ap (λ (l : List ℕ). (fields_at left (place + w) l).verdict)
    (drop-append-le w bytes more within) ∙ later w e
stay_by left place bytes more verdict short not_good some is e later = absurd (not_good (sym e))
stay_by left place [] more verdict (bad f) not_good some is e later = absurd (omega (arith, some))
stay_by left place (byte ∷ rest) more verdict (bad f) not_good some is e later =
    let all = field_stays place (byte ∷ rest) more f is in
    ap (λ (f : Fields). f.verdict) (fields_by left place (byte ∷ (rest ++ more)) (bad f) (omega arith) all) ∙ e

pub fields_stay : (left place : ℕ) (bytes more : List ℕ) (verdict : Verdict LineFileFault) → (verdict ≡ good → ⊥)
    → (fields_at left place bytes).verdict ≡ verdict
    → (fields_at left place (bytes ++ more)).verdict ≡ verdict
unfolding fields_at
fields_stay zero place [] more verdict not_good e = absurd (not_good (sym e))
fields_stay zero place (byte ∷ rest) more verdict not_good e = e
fields_stay (suc left) place [] more verdict not_good e = absurd (not_good (sym e))
fields_stay (suc left) place (byte ∷ rest) more verdict not_good e =
    stay_by left place (byte ∷ rest) more verdict (field_at place (byte ∷ rest)) not_good (omega arith) refl e
    (λ w. fields_stay left (place + w) (drop w (byte ∷ rest)) more verdict not_good)

reading_by : (bytes more : List ℕ) (verdict : Verdict LineFileFault) (v : Front LineHeader) → (verdict ≡ good → ⊥)
    → header_at bytes ≡ v
    → (behind_header v bytes).verdict ≡ verdict
    → (reading_of (bytes ++ more)).verdict ≡ verdict
reading_by bytes more verdict (whole header) not_good is e =
    let least = whole_header bytes header is in
    let behind = drop-append-le HEADER_LENGTH bytes more (omega (arith, least)) in
    ap (λ (v : Front LineHeader). (behind_header v (bytes ++ more)).verdict) (header_more bytes more header is)
    ∙ ap (λ (l : List ℕ). (fields_at MAX_FIELDS HEADER_LENGTH l).verdict) behind
    ∙ fields_stay MAX_FIELDS HEADER_LENGTH (drop HEADER_LENGTH bytes) more verdict not_good e
reading_by bytes more verdict short not_good is e = absurd (not_good (sym e))
reading_by bytes more verdict (bad f) not_good is e =
    ap (λ (v : Front LineHeader). (behind_header v (bytes ++ more)).verdict) (header_stays bytes more f is) ∙ e

-- a fault and the limit stay
pub reading_stays : (bytes more : List ℕ) (verdict : Verdict LineFileFault) → (verdict ≡ good → ⊥)
    → (reading_of bytes).verdict ≡ verdict
    → (reading_of (bytes ++ more)).verdict ≡ verdict
reading_stays bytes more verdict not_good e = reading_by bytes more verdict (header_at bytes) not_good refl e

pub refused_not_good : (f : LineFileFault) → refused f ≡ good → ⊥
refused_not_good f e = absurd cc

pub past_not_good : ◌≡◌ {A = Verdict LineFileFault} past_limit good → ⊥
past_not_good e = absurd cc

-- ---- one list of answers

-- what the law of fields says
abbrev pub OneAnswer : Type 0
OneAnswer = (system : System) (n : ℕ) (lines : List (List ℕ)) (a b : FieldAnswer) → IsLineLength n
    → IsAnswer system n lines a
    → IsAnswer system n lines b → a ≡ b

one_list : OneAnswer → (header : LineHeader) (fields : List (List (List ℕ))) (a b : List FieldAnswer)
    → IsLineLength header.length
    → AreAnswers header fields a → AreAnswers header fields b
    → a ≡ b
one_list law header [] [] [] valid x y = refl
one_list law header [] [] (b ∷ bs) valid x y = absurd y
one_list law header [] (a ∷ more) bs valid x y = absurd x
one_list law header (f ∷ fields) [] bs valid x y = absurd x
one_list law header (f ∷ fields) (a ∷ more) [] valid x y = absurd y
one_list law header (f ∷ fields) (a ∷ more) (b ∷ bs) valid x y =
    ap₂ (λ (z : FieldAnswer) (zs : List FieldAnswer). z ∷ zs) (law header.system header.length f a b valid x.0 y.0)
    (one_list law header fields more bs valid x.1 y.1)

one_list_by : OneAnswer → (bytes : List ℕ) (v : Front LineHeader) (a b : List FieldAnswer) → header_at bytes ≡ v
    → AreAnswersOf (behind_header v bytes) a → AreAnswersOf (behind_header v bytes) b → a ≡ b
one_list_by law bytes (whole header) a b is x y = one_list law header _ a b (header_valid bytes header is).1 x y
one_list_by law bytes short a b is x y = x ∙ sym y
one_list_by law bytes (bad f) a b is x y = x ∙ sym y

pub one_list_of : OneAnswer → (bytes : List ℕ) (a b : List FieldAnswer) → AreAnswersOf (reading_of bytes) a
    → AreAnswersOf (reading_of bytes) b → a ≡ b
one_list_of law bytes a b x y = one_list_by law bytes (header_at bytes) a b refl x y
