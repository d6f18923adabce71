-- What the bytes of a text say is what its lines say: a label each, up to the first line that says none.
use Rattle.std.proofs.Common.{◌≡◌, ◌⊎◌, ℕ, zero, suc, ◌+◌, ◌<◌, ◌≤◌, List, [], ◌∷◌, ◌++◌, length, take}
use Rattle.std.proofs.Common.{inl, inr, refl, sym, ap, ◌∙◌, subst, append_assoc, append-nil, length-append, arith}
use Rattle.std.specs.Prelude.{◌≢◌, Some, None, Ok, Err}
use Rattle.std.specs.List.{AllByRecursion}
use Rattle.std.proofs.lemmas.Bool.{cases_lt, le-ltb, lt-ltb, ne_eqb}
use Rattle.std.proofs.lemmas.List.{length-take-le}
use Rattle.lemmas.specs.Lists.{front_keeps}
use Rattle.tc_address.specs.Label.{Address}
use Rattle.tc_io.specs.Verdict.{good, past_limit, refused}
use Rattle.label_lines.specs.declared.timebase.Timebase.{Timebase}
use Rattle.label_lines.specs.Line.{read_line, wrong_column}
use Rattle.label_lines.specs.Timebase.{count_of}
use Rattle.label_text.specs.declared.fault.LineFault.{LineFault}
use Rattle.label_text.specs.declared.reader.LineRead.TheVariants.{Nothing, Label, Fault, Limit}
use Rattle.label_text.specs.declared.reader.TheConstants.{MAX_LINE, MAX_LINES}
use Rattle.label_text.specs.LabelText.{Place, Reading, at_end, ended_at, fault_at, fault_said, label_or_fault}
use Rattle.label_text.specs.LabelText.{label_said, line_said, place_at, reading_from, said_by, with_labels}
use Rattle.label_command.specs.TextLines.{IsLine, SayLabels, ended, last_line}
use Rattle.label_command.proofs.AnswersGrow.{nothing_behind, said_so}
use Rattle.label_command.proofs.ShortLines.{LabelLaws, read_front, refused_column, says_in_eleven}

-- ---- what a byte says

in_line : (p : Place) (byte : ℕ) → p.number ≤ MAX_LINES → byte ≢ 10 → length p.line < MAX_LINE
    → said_by p byte ≡ Nothing
in_line p byte within other room =
    rw (le-ltb MAX_LINES p.number within, ne_eqb byte 10 other, lt-ltb (length p.line) MAX_LINE room) refl

ends_line : (p : Place) → p.number ≤ MAX_LINES → said_by p 10 ≡ line_said p
ends_line p within = rw (le-ltb MAX_LINES p.number within) refl

too_long : (p : Place) (byte : ℕ) → p.number ≤ MAX_LINES → byte ≢ 10 → MAX_LINE ≤ length p.line
    → said_by p byte ≡ Fault (fault_at p (wrong_column (count_of p.base) p.line))
too_long p byte within other full =
    rw (le-ltb MAX_LINES p.number within, ne_eqb byte 10 other, le-ltb (length p.line) MAX_LINE full) refl

too_many : (p : Place) (byte : ℕ) → MAX_LINES < p.number → said_by p byte ≡ Limit
too_many p byte past = rw (lt-ltb MAX_LINES p.number past) refl

-- ---- a line

-- the bytes of a line, if there is room for them
along_line : (base : Timebase) (n : ℕ) (line bytes more : List ℕ) → n ≤ MAX_LINES → IsLine bytes
    → length line + length bytes ≤ MAX_LINE
    → reading_from (place_at base n line) (bytes ++ more) ≡ reading_from (place_at base n (line ++ bytes)) more
along_line base n line [] more within is room =
    ap (λ (l : List ℕ). reading_from (place_at base n l) more) (sym (append-nil line))
along_line base n line (byte ∷ bytes) more within is room =
    let longer = length-append line (byte ∷ []) in
    said_so (place_at base n line) byte (bytes ++ more) Nothing
    (in_line (place_at base n line) byte within is.0 (omega (arith, room)))
    ∙ along_line base n (line ++ byte ∷ []) bytes more within is.1 (omega (arith, room, longer))
    ∙ ap (λ (l : List ℕ). reading_from (place_at base n l) more) (append_assoc line (byte ∷ []) bytes)

-- a line that is ended and says a label
label_read : LabelLaws → (base : Timebase) (n : ℕ) (line more : List ℕ) (label : Address) → n ≤ MAX_LINES
    → IsLine line → read_line base line ≡ Ok label
    → reading_from (place_at base n []) (line ++ 10 ∷ more)
    ≡ with_labels (label ∷ []) (reading_from (place_at base (n + 1) []) more)
label_read laws base n line more label within is said =
    let few = says_in_eleven laws base line label said in
    let p = place_at base n line in
    along_line base n [] line (10 ∷ more) within is (omega (arith, few))
    ∙ said_so p 10 more (Label label) (ends_line p within ∙ ap (label_or_fault p) said)

-- one that is ended, has room and says none
short_refused : (base : Timebase) (n : ℕ) (line more : List ℕ) (column : ℕ) → n ≤ MAX_LINES → IsLine line
    → length line ≤ MAX_LINE → read_line base line ≡ Err column
    → reading_from (place_at base n []) (line ++ 10 ∷ more)
    ≡ ended_at (refused (fault_at (place_at base n line) column)) (place_at base n line)
short_refused base n line more column within is room said =
    let p = place_at base n line in
    along_line base n [] line (10 ∷ more) within is (omega (arith, room))
    ∙ said_so p 10 more (Fault (fault_at p column)) (ends_line p within ∙ ap (label_or_fault p) said)

-- the byte behind the first ones of a longer line
record Longer (k : ℕ) (line : List ℕ) : Type 0 where
  pub byte : ℕ
  pub rest : List ℕ
  pub other : byte ≢ 10
  pub are : line ≡ take k line ++ byte ∷ rest

longer : (k : ℕ) (line : List ℕ) → IsLine line → k < length line → Longer k line
longer k [] is more = absurd (omega (arith, more))
longer zero (byte ∷ bytes) is more = record { byte = byte; rest = bytes; other = is.0; are = refl }
longer (suc k) (byte ∷ bytes) is more =
    let next = longer k bytes is.1 (omega (arith, more)) in
    record { byte = next.byte; rest = next.rest; other = next.other; are = ap (λ (l : List ℕ). byte ∷ l) next.are }

-- one that has no room is refused, whatever follows
long_refused : LabelLaws → (base : Timebase) (n : ℕ) (line more : List ℕ) (column : ℕ) → n ≤ MAX_LINES → IsLine line
    → MAX_LINE < length line → read_line base line ≡ Err column
    → reading_from (place_at base n []) (line ++ more)
    ≡ ended_at (refused (fault_at (place_at base n []) column)) (place_at base n (take MAX_LINE line))
long_refused laws base n line more column within is long said =
    let front = take MAX_LINE line in
    let cut = longer MAX_LINE line is long in
    let p = place_at base n front in
    let full : length front ≡ MAX_LINE = length-take-le MAX_LINE line (omega (arith, long)) in
    let judged : read_line base front ≡ Err column = read_front laws base line MAX_LINE (omega arith) ∙ said in
    let fault = ap (λ (c : ℕ). Fault (fault_at p c)) (refused_column base front column judged) in
    ap (λ (l : List ℕ). reading_from (place_at base n []) (l ++ more)) cut.are
    ∙ ap (reading_from (place_at base n [])) (append_assoc front (cut.byte ∷ cut.rest) more)
    ∙ along_line base n [] front (cut.byte ∷ (cut.rest ++ more)) within
    (front_keeps (λ (byte : ℕ). byte ≢ 10) MAX_LINE line is) (omega (arith, full))
    ∙ said_so p cut.byte (cut.rest ++ more) (Fault (fault_at p column))
    (too_long p cut.byte within cut.other (omega (arith, full)) ∙ fault)

-- bytes that no newline ends
open_read : (base : Timebase) (n : ℕ) (line : List ℕ) → n ≤ MAX_LINES → IsLine line → length line ≤ MAX_LINE
    → reading_from (place_at base n []) line ≡ ended_at good (place_at base n line)
open_read base n line within is room =
    ap (reading_from (place_at base n [])) (sym (append-nil line))
    ∙ along_line base n [] line [] within is (omega (arith, room))
    ∙ nothing_behind (place_at base n line)

-- a byte behind the last line that is read
past_read : (base : Timebase) (n byte : ℕ) (more : List ℕ) → MAX_LINES < n
    → reading_from (place_at base n []) (byte ∷ more) ≡ ended_at past_limit (place_at base n [])
past_read base n byte more past = said_so (place_at base n []) byte more Limit (too_many (place_at base n []) byte past)

-- the first line of some, and what follows it
pub ended_first : (line : List ℕ) (lines : List (List ℕ)) (rest : List ℕ)
    → ended (line ∷ lines) ++ rest ≡ line ++ 10 ∷ (ended lines ++ rest)
ended_first line lines rest =
    append_assoc (line ++ 10 ∷ []) (ended lines) rest ∙ append_assoc line (10 ∷ []) (ended lines ++ rest)

-- the end of a text ends a line that has bytes
end_said : (base : Timebase) (n byte : ℕ) (bytes : List ℕ)
    → at_end (place_at base n (byte ∷ bytes)) ≡ label_or_fault (place_at base n (byte ∷ bytes))
    (read_line base (byte ∷ bytes))
end_said base n byte bytes = rw (ne_eqb (length (byte ∷ bytes)) 0 (λ none. omega (arith, none))) refl

-- ---- a text whose lines all say labels

pub record IsReadSo (r : Reading) (labels : List Address) : Type 0 where
  pub is_good : r.verdict ≡ good
  pub no_fault : fault_said (at_end r.place) ≡ None
  pub all : r.labels ++ label_said (at_end r.place) ≡ labels

end_label : (base : Timebase) (n byte : ℕ) (bytes : List ℕ) (label : Address) → read_line base (byte ∷ bytes) ≡ Ok label
    → IsReadSo (ended_at good (place_at base n (byte ∷ bytes))) (label ∷ [])
end_label base n byte bytes label said =
    let end : at_end (place_at base n (byte ∷ bytes)) ≡ Label label =
    end_said base n byte bytes ∙ ap (label_or_fault (place_at base n (byte ∷ bytes))) said in
    record { is_good = refl; no_fault = ap fault_said end; all = ap label_said end }

label_before : (label : Address) (r : Reading) (labels : List Address) → IsReadSo r labels
    → IsReadSo (with_labels (label ∷ []) r) (label ∷ labels)
label_before label r labels is = record {
  is_good = is.is_good;
  no_fault = is.no_fault;
  all = ap (λ (l : List Address). label ∷ l) is.all;
}

pub whole_text : LabelLaws → (base : Timebase) (n : ℕ) (front : List (List ℕ)) (rest : List ℕ) (labels : List Address)
    → AllByRecursion IsLine front → IsLine rest → n + length (front ++ last_line rest) ≤ MAX_LINES + 1
    → SayLabels base (front ++ last_line rest) labels
    → IsReadSo (reading_from (place_at base n []) (ended front ++ rest)) labels
whole_text laws base n [] [] [] each last few say =
    subst (λ (r : Reading). IsReadSo r []) (sym (nothing_behind (place_at base n [])))
    (record { is_good = refl; no_fault = refl; all = refl })
whole_text laws base n [] [] (label ∷ labels) each last few say = absurd cc
whole_text laws base n [] (byte ∷ bytes) [] each last few say = absurd cc
whole_text laws base n [] (byte ∷ bytes) (label ∷ []) each last few say =
    let said : read_line base (byte ∷ bytes) ≡ Ok label = cc in
    let room = says_in_eleven laws base (byte ∷ bytes) label said in
    subst (λ (r : Reading). IsReadSo r (label ∷ []))
    (sym (open_read base n (byte ∷ bytes) (omega (arith, few)) last (omega (arith, room))))
    (end_label base n byte bytes label said)
whole_text laws base n [] (byte ∷ bytes) (label ∷ other ∷ labels) each last few say = absurd cc
whole_text laws base n (line ∷ front) rest [] each last few say = absurd cc
whole_text laws base n (line ∷ front) rest (label ∷ labels) each last few say =
    let said : read_line base line ≡ Ok label = cc in
    let next = whole_text laws base (n + 1) front rest labels each.1 last (omega (arith, few)) (cc) in
    subst (λ (r : Reading). IsReadSo r (label ∷ labels))
    (sym (ap (reading_from (place_at base n [])) (ended_first line front rest)
    ∙ label_read laws base n line (ended front ++ rest) label (omega (arith, few)) each.0 said))
    (label_before label (reading_from (place_at base (n + 1) []) (ended front ++ rest)) labels next)

-- ---- a text of which one says none

-- the fault is shown, or the text ends with it
pub record IsRefusedSo (r : Reading) (labels : List Address) (fault : LineFault) : Type 0 where
  pub told : (r.verdict ≡ refused fault) ⊎ ((r.verdict ≡ good) × (fault_said (at_end r.place) ≡ Some fault))
  pub all : r.labels ≡ labels

refused_before : (label : Address) (r : Reading) (labels : List Address) (fault : LineFault)
    → IsRefusedSo r labels fault
    → IsRefusedSo (with_labels (label ∷ []) r) (label ∷ labels) fault
refused_before label r labels fault is =
    record { told = is.told; all = ap (λ (l : List Address). label ∷ l) is.all }

abbrev fault_in : ℕ → ℕ → LineFault
fault_in n column = record { line = n; column = column }

refused_at_once : (base : Timebase) (n column : ℕ) (p : Place)
    → IsRefusedSo (ended_at (refused (fault_in n column)) p) [] (fault_in n column)
refused_at_once base n column p = record { told = inl refl; all = refl }

-- the line that a newline ends
ended_refused : LabelLaws → (base : Timebase) (n : ℕ) (line more : List ℕ) (column : ℕ) → n ≤ MAX_LINES → IsLine line
    → read_line base line ≡ Err column
    → IsRefusedSo (reading_from (place_at base n []) (line ++ 10 ∷ more)) [] (fault_in n column)
ended_refused laws base n line more column within is said = elim (cases_lt MAX_LINE (length line)) [
  | inl long ↦ subst (λ (r : Reading). IsRefusedSo r [] (fault_in n column))
      (sym (long_refused laws base n line (10 ∷ more) column within is long said))
      (refused_at_once base n column (place_at base n (take MAX_LINE line)))
  | inr room ↦ subst (λ (r : Reading). IsRefusedSo r [] (fault_in n column))
      (sym (short_refused base n line more column within is room said))
      (refused_at_once base n column (place_at base n line))
]

-- the last one, that no newline ends
last_refused : LabelLaws → (base : Timebase) (n byte : ℕ) (bytes : List ℕ) (column : ℕ) → n ≤ MAX_LINES
    → IsLine (byte ∷ bytes) → read_line base (byte ∷ bytes) ≡ Err column
    → IsRefusedSo (reading_from (place_at base n []) (byte ∷ bytes)) [] (fault_in n column)
last_refused laws base n byte bytes column within is said =
    let line = byte ∷ bytes in
    elim (cases_lt MAX_LINE (length line)) [
      | inl long ↦ subst (λ (r : Reading). IsRefusedSo r [] (fault_in n column))
          (sym (ap (reading_from (place_at base n [])) (sym (append-nil line))
          ∙ long_refused laws base n line [] column within is long said))
          (refused_at_once base n column (place_at base n (take MAX_LINE line)))
      | inr room ↦ subst (λ (r : Reading). IsRefusedSo r [] (fault_in n column))
          (sym (open_read base n line within is room))
          (record {
            told = inr (
              refl,
              ap fault_said (end_said base n byte bytes ∙ ap (label_or_fault (place_at base n line)) said),
            );
            all = refl;
          })
    ]

pub refused_text : LabelLaws → (base : Timebase) (n : ℕ) (front : List (List ℕ)) (rest : List ℕ)
    (before : List (List ℕ)) (line : List ℕ) (behind : List (List ℕ)) (labels : List Address) (column : ℕ)
    → AllByRecursion IsLine front → IsLine rest → front ++ last_line rest ≡ before ++ line ∷ behind
    → SayLabels base before labels → read_line base line ≡ Err column → (k : ℕ) → k ≡ n + length before → k ≤ MAX_LINES
    → IsRefusedSo (reading_from (place_at base n []) (ended front ++ rest)) labels (fault_in k column)
refused_text laws base n [] [] [] line behind labels column each last are say said k place within = absurd cc
refused_text laws base n [] [] (first ∷ before) line behind labels column each last are say said k place within =
    absurd cc
refused_text laws base n [] (byte ∷ bytes) [] line behind (label ∷ labels) column each last are say said k place
    within =
    absurd cc
refused_text laws base n [] (byte ∷ bytes) [] line behind [] column each last are say said k place within =
    let same : line ≡ byte ∷ bytes = cc in
    let here : k ≡ n = omega (arith, place) in
    subst (λ (m : ℕ). IsRefusedSo (reading_from (place_at base n []) (byte ∷ bytes)) [] (fault_in m column)) (sym here)
    (last_refused laws base n byte bytes column (omega (arith, here, within)) last
    (ap (read_line base) (sym same) ∙ said))
refused_text laws base n [] (byte ∷ bytes) (first ∷ []) line behind labels column each last are say said k place
    within =
    absurd cc
refused_text laws base n [] (byte ∷ bytes) (first ∷ next ∷ before) line behind labels column each last are say said k
    place within = absurd cc
refused_text laws base n (l ∷ front) rest [] line behind (label ∷ labels) column each last are say said k place within =
    absurd cc
refused_text laws base n (l ∷ front) rest [] line behind [] column each last are say said k place within =
    let same : line ≡ l = cc in
    let here : k ≡ n = omega (arith, place) in
    subst (λ (m : ℕ). IsRefusedSo (reading_from (place_at base n []) (ended (l ∷ front) ++ rest)) []
    (fault_in m column))
    (sym here)
    (subst (λ (bytes : List ℕ). IsRefusedSo (reading_from (place_at base n []) bytes) [] (fault_in n column))
    (sym (ended_first l front rest))
    (ended_refused laws base n l (ended front ++ rest) column (omega (arith, here, within)) each.0
    (ap (read_line base) (sym same) ∙ said)))
refused_text laws base n (l ∷ front) rest (first ∷ before) line behind [] column each last are say said k place within =
    absurd cc
refused_text laws base n (l ∷ front) rest (first ∷ before) line behind (label ∷ labels) column each last are say said k
    place within =
    let same : first ≡ l = cc in
    let first_said : read_line base first ≡ Ok label = cc in
    let l_said : read_line base l ≡ Ok label = ap (read_line base) (sym same) ∙ first_said in
    let next = refused_text laws base (n + 1) front rest before line behind labels column each.1 last (cc) (cc) said k
    (omega (arith, place)) within in
    subst (λ (r : Reading). IsRefusedSo r (label ∷ labels) (fault_in k column))
    (sym (ap (reading_from (place_at base n [])) (ended_first l front rest)
    ∙ label_read laws base n l (ended front ++ rest) label (omega (arith, place, within)) each.0 l_said))
    (refused_before label (reading_from (place_at base (n + 1) []) (ended front ++ rest)) labels (fault_in k column)
    next)

-- ---- a text of more lines than are read

pub record IsLimitedSo (r : Reading) (labels : List Address) : Type 0 where
  pub is_past : r.verdict ≡ past_limit
  pub all : r.labels ≡ labels

limited_before : (label : Address) (r : Reading) (labels : List Address) → IsLimitedSo r labels
    → IsLimitedSo (with_labels (label ∷ []) r) (label ∷ labels)
limited_before label r labels is =
    record { is_past = is.is_past; all = ap (λ (l : List Address). label ∷ l) is.all }

limited_at_once : (base : Timebase) (n byte : ℕ) (more : List ℕ) → MAX_LINES < n
    → IsLimitedSo (reading_from (place_at base n []) (byte ∷ more)) []
limited_at_once base n byte more past =
    subst (λ (r : Reading). IsLimitedSo r []) (sym (past_read base n byte more past))
    (record { is_past = refl; all = refl })

limited_line : (base : Timebase) (n : ℕ) (line more : List ℕ) → MAX_LINES < n
    → IsLimitedSo (reading_from (place_at base n []) (line ++ 10 ∷ more)) []
limited_line base n [] more past = limited_at_once base n 10 more past
limited_line base n (byte ∷ bytes) more past = limited_at_once base n byte (bytes ++ 10 ∷ more) past

pub limited_text : LabelLaws → (base : Timebase) (n : ℕ) (front : List (List ℕ)) (rest : List ℕ)
    (before : List (List ℕ)) (line : List ℕ) (behind : List (List ℕ)) (labels : List Address)
    → AllByRecursion IsLine front → front ++ last_line rest ≡ before ++ line ∷ behind
    → SayLabels base before labels → n + length before ≡ MAX_LINES + 1
    → IsLimitedSo (reading_from (place_at base n []) (ended front ++ rest)) labels
limited_text laws base n [] [] [] line behind labels each are say place = absurd cc
limited_text laws base n [] [] (first ∷ before) line behind labels each are say place = absurd cc
limited_text laws base n [] (byte ∷ bytes) [] line behind (label ∷ labels) each are say place = absurd cc
limited_text laws base n [] (byte ∷ bytes) [] line behind [] each are say place =
    limited_at_once base n byte bytes (omega (arith, place))
limited_text laws base n [] (byte ∷ bytes) (first ∷ []) line behind labels each are say place = absurd cc
limited_text laws base n [] (byte ∷ bytes) (first ∷ next ∷ before) line behind labels each are say place = absurd cc
limited_text laws base n (l ∷ front) rest [] line behind (label ∷ labels) each are say place = absurd cc
limited_text laws base n (l ∷ front) rest [] line behind [] each are say place =
    subst (λ (bytes : List ℕ). IsLimitedSo (reading_from (place_at base n []) bytes) [])
    (sym (ended_first l front rest)) (limited_line base n l (ended front ++ rest) (omega (arith, place)))
limited_text laws base n (l ∷ front) rest (first ∷ before) line behind [] each are say place = absurd cc
limited_text laws base n (l ∷ front) rest (first ∷ before) line behind (label ∷ labels) each are say place =
    let same : first ≡ l = cc in
    let first_said : read_line base first ≡ Ok label = cc in
    let l_said : read_line base l ≡ Ok label = ap (read_line base) (sym same) ∙ first_said in
    let next = limited_text laws base (n + 1) front rest before line behind labels each.1 (cc) (cc)
    (omega (arith, place)) in
    subst (λ (r : Reading). IsLimitedSo r (label ∷ labels))
    (sym (ap (reading_from (place_at base n [])) (ended_first l front rest)
    ∙ label_read laws base n l (ended front ++ rest) label (omega (arith, place)) each.0 l_said))
    (limited_before label (reading_from (place_at base (n + 1) []) (ended front ++ rest)) labels next)
