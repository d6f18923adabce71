-- A decoder that takes a header or a field stands for the bytes with those that it took; and what is told where it
-- takes none.
use Rattle.std.proofs.Common.{true, false, ◌≡◌, ℕ, zero, suc, ◌+◌, ◌-◌, ◌<◌, ◌≤◌, Bool, List, [], ◌∷◌, ◌++◌, Some, None}
use Rattle.std.proofs.Common.{length, take, refl, sym, ap, ◌∙◌, arith, subst, append_assoc, append-nil}
use Rattle.std.specs.Prelude.{if◌then◌else◌, is_some}
use Rattle.std.specs.declared.option.Option.{Option}
use Rattle.std.proofs.lemmas.List.{length-append, length-take-le}
use Rattle.file_faults.specs.declared.lines.LineFileFault.{LineFileFault}
use Rattle.file_faults.specs.declared.lines.LineFileFault.TheVariants as fault
use Rattle.tc_io.specs.Verdict.{Verdict, good, refused, past_limit}
use Rattle.vitc_reader.specs.declared.field.FieldAnswer.{FieldAnswer}
use Rattle.vitc_reader.specs.Field.{IsAnswer}
use Rattle.line_file.specs.declared.decoder.TheConstants.{FIELD_ROOM, MAX_FIELDS}
use Rattle.line_file.specs.declared.header.LineHeader.{LineHeader}
use Rattle.line_file.specs.Answers.{AreAnswers}
use Rattle.line_file.specs.LineFile.{Front, whole, short, bad, header_at, field_at, Fields, field_then, fields_at}
use Rattle.line_file.specs.LineFile.{Reading, behind_header, end_fault_of, reading_of}
use Rattle.line_file.specs.KeptPieces.{field_width, no_field, no_header, with_field, with_fields}
use Rattle.line_file.specs.StandsFor.{decoding_of, Adds, IsShort, IsTold, StandsFor}
use Rattle.line_file.proofs.FieldByField.{fields_by, fields_behind}
use Rattle.line_file.proofs.HeaderBytes.{short_header}
use Rattle.line_file.proofs.OwnBytes.{own_field, short_field}

-- ---- what is taken

answered_more : (header : LineHeader) (fields : List (List (List ℕ))) (answers : List FieldAnswer)
    (lines : List (List ℕ)) (answer : FieldAnswer)
    → AreAnswers header fields answers → IsAnswer header.system header.length lines answer
    → AreAnswers header (fields ++ lines ∷ []) (answers ++ answer ∷ [])
answered_more header [] [] lines answer are is = (is, tt)
answered_more header [] (a ∷ answers) lines answer are is = absurd are
answered_more header (f ∷ fields) [] lines answer are is = absurd are
answered_more header (f ∷ fields) (a ∷ answers) lines answer are is =
    (are.0, answered_more header fields answers lines answer are.1 is)

one_left : (count : ℕ) → count < MAX_FIELDS → MAX_FIELDS - count ≡ suc (MAX_FIELDS - (count + 1))
one_left count room = omega (arith, room)

-- a field
pub field_added : (header : LineHeader) (place count : ℕ) (bytes : List ℕ) (lines : List (List ℕ))
    (answer : FieldAnswer) → count < MAX_FIELDS → field_at place bytes ≡ whole lines
    → IsAnswer header.system header.length lines answer
    → Adds (decoding_of (Some header) place count) (decoding_of (Some header) (place + field_width lines) (count + 1))
    bytes (field_width lines) (answer ∷ [])
field_added header place count bytes lines answer room read says =
    let w = field_width lines in
    let o = own_field place bytes lines read in
    let piece = take w bytes in
    let size : length piece ≡ w = length-take-le w bytes o.within in
    record {
      some = omega arith;
      within = o.within;
      taken = refl;
      fields = refl;
      stands = λ front answers s. record {
        fields = s.fields ++ lines ∷ [];
        place = omega (arith, s.place, size, length-append front piece);
        count = omega (arith, s.count, length-append s.fields (lines ∷ []));
        follows = λ more.
            let later = fields_at (MAX_FIELDS - (count + 1)) (place + w) more in
            let here : fields_at (MAX_FIELDS - count) place (piece ++ more) ≡ with_field lines later =
            rw (one_left count room) (fields_behind (MAX_FIELDS - (count + 1)) place bytes more lines read) in
            ap reading_of (append_assoc front piece more) ∙ s.follows (piece ++ more)
            ∙ ap (λ (f : Fields). with_fields header s.fields f) here
            ∙ ap (λ (fs : List (List (List ℕ))). with_fields header [] (record later { fields = fs }))
            (sym (append_assoc s.fields (lines ∷ []) later.fields));
        answered = answered_more header s.fields answers lines answer s.answered says;
      };
    }

-- ---- what is told

-- bytes in which no field is whole
fields_end : (place count : ℕ) (bytes : List ℕ) (verdict : Verdict LineFileFault) (v : Front (List (List ℕ)))
    → count < MAX_FIELDS → 1 ≤ length bytes → field_at place bytes ≡ v
    → ((next : List (List ℕ) → Fields) → field_then v next ≡ no_field verdict false)
    → fields_at (MAX_FIELDS - count) place bytes ≡ no_field verdict false
fields_end place count bytes verdict v room some is ends =
    rw (one_left count room) (fields_by (MAX_FIELDS - (count + 1)) place bytes v some is ∙ ends _)

told_as : (header : LineHeader) (place count : ℕ) (front bytes : List ℕ) (answers : List FieldAnswer)
    (verdict : Verdict LineFileFault) (all : Bool) → StandsFor (decoding_of (Some header) place count) front answers
    → fields_at (MAX_FIELDS - count) place bytes ≡ no_field verdict all
    → IsTold (reading_of (front ++ bytes)) verdict answers
told_as header place count front bytes answers verdict all s is =
    subst (λ (r : Reading). IsTold r verdict answers)
    (sym (s.follows bytes ∙ ap (λ (f : Fields). with_fields header s.fields f) is))
    (refl, subst (λ (fs : List (List (List ℕ))). AreAnswers header fs answers) (sym (append-nil s.fields)) s.answered)

told_first : (place count : ℕ) (front bytes : List ℕ) (answers : List FieldAnswer) (verdict : Verdict LineFileFault)
    (v : Front LineHeader) → StandsFor (decoding_of None place count) front answers → header_at bytes ≡ v
    → behind_header v bytes ≡ no_header verdict → IsTold (reading_of (front ++ bytes)) verdict answers
told_first place count front bytes answers verdict v s is ends =
    subst (λ (r : Reading). IsTold r verdict answers)
    (sym (s.follows bytes ∙ ap (λ (v : Front LineHeader). behind_header v bytes) is ∙ ends)) (refl, s.answered.1)

-- a fault of a field
pub field_fault : (header : LineHeader) (place count : ℕ) (front bytes : List ℕ) (answers : List FieldAnswer)
    (f : LineFileFault) → count < MAX_FIELDS → 1 ≤ length bytes
    → StandsFor (decoding_of (Some header) place count) front answers → field_at place bytes ≡ bad f
    → IsTold (reading_of (front ++ bytes)) (refused f) answers
field_fault header place count front bytes answers f room some s is =
    told_as header place count front bytes answers (refused f) false s
    (fields_end place count bytes (refused f) (bad f) room some is (λ next. refl))

-- a piece that is not whole
pub cut_told : (header : Option LineHeader) (place count : ℕ) (front bytes : List ℕ) (answers : List FieldAnswer)
    → 1 ≤ length bytes → IsShort header place count bytes
    → StandsFor (decoding_of header place count) front answers → IsTold (reading_of (front ++ bytes)) good answers
cut_told None place count front bytes answers some is s =
    told_first place count front bytes answers good short s is refl
cut_told (Some header) place count front bytes answers some is s =
    told_as header place count front bytes answers good false s
    (fields_end place count bytes good short is.0 some is.1 (λ next. refl))

none_left : (place : ℕ) (bytes : List ℕ) → 1 ≤ length bytes → fields_at zero place bytes ≡ no_field past_limit false
unfolding fields_at
none_left place [] some = absurd (omega (arith, some))
none_left place (byte ∷ more) some = refl

-- the limit
pub limit_told : (header : LineHeader) (place count : ℕ) (front bytes : List ℕ) (answers : List FieldAnswer)
    → count ≡ MAX_FIELDS → 1 ≤ length bytes → StandsFor (decoding_of (Some header) place count) front answers
    → IsTold (reading_of (front ++ bytes)) past_limit answers
limit_told header place count front bytes answers full some s =
    let left : MAX_FIELDS - count ≡ zero = omega (arith, full) in
    told_as header place count front bytes answers past_limit false s (rw left (none_left place bytes some))

no_more : (left place : ℕ) → fields_at left place [] ≡ no_field good true
unfolding fields_at
no_more left place = refl

-- bytes that were taken are good
pub told_good : (header : Option LineHeader) (place count : ℕ) (front : List ℕ) (answers : List FieldAnswer)
    → StandsFor (decoding_of header place count) front answers → IsTold (reading_of front) good answers
told_good None place count front answers s =
    subst (λ (l : List ℕ). IsTold (reading_of l) good answers) (append-nil front)
    (told_first place count front [] answers good short s refl refl)
told_good (Some header) place count front answers s =
    subst (λ (l : List ℕ). IsTold (reading_of l) good answers) (append-nil front)
    (told_as header place count front [] answers good true s (no_more (MAX_FIELDS - count) place))

-- ---- the end of the input

ends : (bytes : List ℕ) (all : Bool) → (reading_of bytes).is_whole ≡ all
    → end_fault_of bytes ≡ (if all then None else Some (fault.Truncated (length bytes)))
ends bytes all is = ap (λ (b : Bool). if b then None else Some (fault.Truncated (length bytes))) is

ends_cut : (place : ℕ) (front bytes : List ℕ) → place ≡ length front
    → (reading_of (front ++ bytes)).is_whole ≡ false
    → end_fault_of (front ++ bytes) ≡ Some (fault.Truncated (place + length bytes))
ends_cut place front bytes at is =
    ends (front ++ bytes) false is
    ∙ ap (λ (n : ℕ). Some (fault.Truncated n)) (omega (arith, at, length-append front bytes))

-- inside a header or a field
pub cut_end : (header : Option LineHeader) (place count : ℕ) (front bytes : List ℕ) (answers : List FieldAnswer)
    → 1 ≤ length bytes → IsShort header place count bytes
    → StandsFor (decoding_of header place count) front answers
    → end_fault_of (front ++ bytes) ≡ Some (fault.Truncated (place + length bytes))
cut_end None place count front bytes answers some is s =
    ends_cut place front bytes s.place (ap (λ (r : Reading). r.is_whole)
    (s.follows bytes ∙ ap (λ (v : Front LineHeader). behind_header v bytes) is))
cut_end (Some header) place count front bytes answers some is s =
    ends_cut place front bytes s.place (ap (λ (r : Reading). r.is_whole) (s.follows bytes
    ∙ ap (λ (f : Fields). with_fields header s.fields f)
    (fields_end place count bytes good short is.0 some is.1 (λ next. refl))))

-- before the header it may not end
pub no_end : (header : Option LineHeader) (place count : ℕ) (front : List ℕ) (answers : List FieldAnswer)
    → is_some header ≡ false → StandsFor (decoding_of header place count) front answers
    → end_fault_of front ≡ Some (fault.Truncated place)
no_end (Some header) place count front answers is s = absurd cc
no_end None place count front answers is s =
    ap end_fault_of (sym (append-nil front))
    ∙ ends_cut place front [] s.place (ap (λ (r : Reading). r.is_whole) (s.follows []))
    ∙ ap (λ (n : ℕ). Some (fault.Truncated n)) (omega arith)

-- behind it, and behind a field, it may
pub may_end : (header : Option LineHeader) (place count : ℕ) (front : List ℕ) (answers : List FieldAnswer)
    → is_some header ≡ true → StandsFor (decoding_of header place count) front answers → end_fault_of front ≡ None
may_end None place count front answers is s = absurd cc
may_end (Some header) place count front answers is s =
    ap end_fault_of (sym (append-nil front))
    ∙ ends (front ++ []) true (ap (λ (r : Reading). r.is_whole) (s.follows []
    ∙ ap (λ (f : Fields). with_fields header s.fields f) (no_more (MAX_FIELDS - count) place)))

-- ---- how long a piece is

pub cut_less : (header : Option LineHeader) (place count : ℕ) (bytes : List ℕ) → IsShort header place count bytes
    → length bytes < FIELD_ROOM
cut_less None place count bytes is = let less = short_header bytes is in omega (arith, less)
cut_less (Some header) place count bytes is = let less = short_field place bytes is.1 in omega (arith, less)
