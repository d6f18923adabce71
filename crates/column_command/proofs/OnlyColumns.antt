-- A line is cut at the columns that are answered: each gives way to its answer, and what is between them stays.
use Rattle.std.proofs.Common.{◌≡◌, ◌≤◌, ℕ, zero, suc, ◌+◌, ◌-◌, Bool, true, false, cond, ◌==◌, List, [], ◌∷◌, ◌++◌}
use Rattle.std.proofs.Common.{append_assoc, ap, arith, drop, length, nat_le, refl, slice_get, sym, take}
use Rattle.std.proofs.Common.{◌∙◌, Some, None, subst, if◌then◌else◌}
use Rattle.std.specs.declared.option.Option.{Option}
use Rattle.std.specs.List.{AllByRecursion}
use Rattle.std.proofs.Math.Bool.{and-false}
use Rattle.std.proofs.lemmas.Bool.{and_parts, leb-true, ne_eqb}
use Rattle.std.proofs.lemmas.List.{drop-drop, take-append-drop}
use Rattle.column_command.specs.OnlyColumns.{Change, IsAnswered, OnlyColumnsChange, OnlyThese, becomes, was}
use Rattle.label_columns.specs.Columns.{answer_to, answered_field, answered_from, answered_line, answered_or_long}
use Rattle.label_columns.specs.Columns.{before, column_length, column_of, columns_in, columns_of, ends_field}
use Rattle.label_columns.specs.Columns.{fields_length, line_columns}
use Rattle.label_columns.specs.Columns.{is_meant, up_to_last, with_answer}
use Rattle.label_columns.specs.declared.columns.Parting.{Parting}
use Rattle.label_columns.specs.declared.columns.Parting.TheVariants.{Blanks, Commas, CommasAndSemicolons}
use Rattle.label_columns.specs.declared.columns.TheConstants.{MAX_COLUMN_LINE}
use Rattle.label_columns.specs.Parts.{Part, joined, parted}
use Rattle.tc_address.specs.Label.{is_label}
use Rattle.tc_address.specs.Spelling.{address_in}
use Rattle.label_lines.specs.Timebase.{count_of}
use Rattle.tc_job.specs.declared.column_run.ColumnRun.{ColumnRun}

-- ---- bytes before and behind

joined_in : (a b c d rest : List ℕ) → a ++ (((b ++ c) ++ d) ++ rest) ≡ (((a ++ b) ++ c) ++ d) ++ rest
joined_in a b c d rest =
    sym (append_assoc a ((b ++ c) ++ d) rest)
    ∙ ap (λ (l : List ℕ). l ++ rest) (sym (append_assoc a (b ++ c) d)
    ∙ ap (λ (l : List ℕ). l ++ d) (sym (append_assoc a b c)))

one_in_front : (b c d rest : List ℕ) → b ++ (c ++ (d ++ rest)) ≡ ((b ++ c) ++ d) ++ rest
one_in_front b c d rest = sym (append_assoc (b ++ c) d rest ∙ append_assoc b c (d ++ rest))

pub nothing_changes : (run : ColumnRun) (first : ℕ) (all : List (List ℕ)) (bytes : List ℕ)
    → OnlyThese run first all bytes bytes
nothing_changes run first all bytes =
    record { changes = []; rest = bytes; bytes_are = refl; written_are = refl; each = tt }

-- bytes in front that stay
behind : (run : ColumnRun) (first : ℕ) (all : List (List ℕ)) (a bytes written : List ℕ)
    → OnlyThese run first all bytes written → OnlyThese run first all (a ++ bytes) (a ++ written)
behind run first all a bytes written these =
    go these.changes these.rest these.bytes_are these.written_are these.each
  where
    go : (changes : List Change) (rest : List ℕ) → bytes ≡ was changes ++ rest → written ≡ becomes changes ++ rest
        → AllByRecursion (IsAnswered run first all) changes → OnlyThese run first all (a ++ bytes) (a ++ written)
    go [] rest is becoming each = record {
      changes = [];
      rest = a ++ rest;
      bytes_are = ap (λ (l : List ℕ). a ++ l) is;
      written_are = ap (λ (l : List ℕ). a ++ l) becoming;
      each = tt;
    }
    go (c ∷ changes) rest is becoming each = record {
      changes = record c { before = a ++ c.before } ∷ changes;
      rest = rest;
      bytes_are = ap (λ (l : List ℕ). a ++ l) is ∙ joined_in a c.before c.column (was changes) rest;
      written_are = ap (λ (l : List ℕ). a ++ l) becoming ∙ joined_in a c.before c.put (becomes changes) rest;
      each = (
        record {
          counted = each.0.counted;
          from = each.0.from;
          to = each.0.to;
          is = each.0.is;
          answer = each.0.answer;
        },
        each.1,
      );
    }

-- a column in front that is answered
answered_first : (run : ColumnRun) (first : ℕ) (all : List (List ℕ)) (c : Change) (bytes written : List ℕ)
    → IsAnswered run first all c → OnlyThese run first all bytes written
    → OnlyThese run first all (c.before ++ (c.column ++ bytes)) (c.before ++ (c.put ++ written))
answered_first run first all c bytes written is these = record {
  changes = c ∷ these.changes;
  rest = these.rest;
  bytes_are = ap (λ (l : List ℕ). c.before ++ (c.column ++ l)) these.bytes_are
      ∙ one_in_front c.before c.column (was these.changes) these.rest;
  written_are = ap (λ (l : List ℕ). c.before ++ (c.put ++ l)) these.written_are
      ∙ one_in_front c.before c.put (becomes these.changes) these.rest;
  each = (is, these.each);
}

-- bytes behind that stay
pub in_front_of : (run : ColumnRun) (first : ℕ) (all : List (List ℕ)) (bytes written a : List ℕ)
    → OnlyThese run first all bytes written → OnlyThese run first all (bytes ++ a) (written ++ a)
in_front_of run first all bytes written a these = record {
  changes = these.changes;
  rest = these.rest ++ a;
  bytes_are = ap (λ (l : List ℕ). l ++ a) these.bytes_are ∙ append_assoc (was these.changes) these.rest a;
  written_are = ap (λ (l : List ℕ). l ++ a) these.written_are ∙ append_assoc (becomes these.changes) these.rest a;
  each = these.each;
}

-- ---- the columns of more fields

all_also : {X : Type 0} (P Q : X → Type 0) (xs : List X) → ((x : X) → P x → Q x) → AllByRecursion P xs
    → AllByRecursion Q xs
all_also P Q [] also all = tt
all_also P Q (x ∷ xs) also all = (also x all.0, all_also P Q xs also all.1)

-- a field in front that is no column, or one
one_later : (run : ColumnRun) (first count : ℕ) (column : List ℕ) (others : List (List ℕ)) (c : Change)
    → count ≤ 1 → IsAnswered run (first + count) others c
    → IsAnswered run first ((if count == 0 then [] else column ∷ []) ++ others) c
one_later run first count column others c few is = by_count count few is
  where
    by_count : (count : ℕ) → count ≤ 1 → IsAnswered run (first + count) others c
        → IsAnswered run first ((if count == 0 then [] else column ∷ []) ++ others) c
    by_count zero few is = record {
      counted = omega (arith, is.counted);
      from = is.from;
      to = is.to;
      is = (let same : c.number - first ≡ c.number - (first + 0) = omega arith in rw same is.is);
      answer = is.answer;
    }
    by_count (suc zero) few is = record {
      counted = omega (arith, is.counted);
      from = is.from;
      to = is.to;
      is = (let counted = is.counted in
          let next : c.number - first ≡ suc (c.number - (first + 1)) = omega (arith, counted) in
          rw next is.is);
      answer = is.answer;
    }
    by_count (suc (suc n)) few is = absurd (omega (arith, few))

later : (run : ColumnRun) (first count : ℕ) (column : List ℕ) (others : List (List ℕ)) (bytes written : List ℕ)
    → count ≤ 1 → OnlyThese run (first + count) others bytes written
    → OnlyThese run first ((if count == 0 then [] else column ∷ []) ++ others) bytes written
later run first count column others bytes written few these = record {
  changes = these.changes;
  rest = these.rest;
  bytes_are = these.bytes_are;
  written_are = these.written_are;
  each = all_also (IsAnswered run (first + count) others) _ these.changes
      (λ c is. one_later run first count column others c few is) these.each;
}

-- ---- a field

few_columns : (parting : Parting) (field : List ℕ) → columns_in parting field ≤ 1
few_columns Blanks field = by_test (length field == 0)
  where
    by_test : (none : Bool) → (if none then 0 else 1) ≤ 1
    by_test true = omega arith
    by_test false = omega arith
few_columns Commas field = omega arith
few_columns CommasAndSemicolons field = omega arith

-- a field that is no column is empty, and says no label
none_said : (run : ColumnRun) (parting : Parting) (field put : List ℕ) → columns_in parting field ≡ 0
    → ¬ (answer_to run.labels.base run.labels.way (column_of field) ≡ Some put)
unfolding answer_to up_to_last
none_said run Blanks [] put none said =
    let no = and-false (is_label (address_in (count_of run.labels.base) [])) in
    absurd (none_is (put) (rw no at said))
  where
    none_is : (put : List ℕ) → ¬ (None ≡ Some put)
    none_is put same = cc
none_said run Blanks (byte ∷ field) put none said =
    let one : columns_in Blanks (byte ∷ field) ≡ 1 = rw (ne_eqb (length (byte ∷ field)) 0 (omega arith)) refl in
    omega (arith, none, one)
none_said run Commas field put none said = omega (arith, none)
none_said run CommasAndSemicolons field put none said = omega (arith, none)

-- the bytes before a column, the column, and those behind it
cut_at_column : (field : List ℕ)
    → field ≡ take (before field) field ++ (column_of field ++ drop (before field + column_length field) field)
cut_at_column field =
    sym (take-append-drop (before field) field)
    ∙ ap (λ (l : List ℕ). take (before field) field ++ l)
    (sym (take-append-drop (column_length field) (drop (before field) field))
    ∙ ap (λ (l : List ℕ). column_of field ++ l) (drop-drop (column_length field) (before field) field))

parted_so : (a b c rest : List ℕ) → (a ++ (b ++ c)) ++ rest ≡ a ++ (b ++ (c ++ rest))
parted_so a b c rest = append_assoc a (b ++ c) rest ∙ ap (λ (l : List ℕ). a ++ l) (append_assoc b c rest)

-- a field in front that stays
field_stays : (run : ColumnRun) (first : ℕ) (all : List (List ℕ)) (body end bytes written : List ℕ)
    → OnlyThese run first all bytes written
    → OnlyThese run first all ((body ++ end) ++ bytes) ((body ++ end) ++ written)
field_stays run first all body end bytes written these = behind run first all (body ++ end) bytes written these

-- a field in front that is answered
field_answered : (run : ColumnRun) (first : ℕ) (all : List (List ℕ)) (body end put bytes written : List ℕ)
    → IsAnswered run first all
    (record { before = take (before body) body; number = first; column = column_of body; put = put })
    → OnlyThese run first all bytes written
    → OnlyThese run first all ((body ++ end) ++ bytes) ((with_answer body (Some put) ++ end) ++ written)
field_answered run first all body end put bytes written is these =
    let front = take (before body) body in
    let back = drop (before body + column_length body) body in
    let cut : (body ++ end) ++ bytes ≡ front ++ (column_of body ++ (back ++ (end ++ bytes))) =
    append_assoc body end bytes ∙ ap (λ (l : List ℕ). l ++ (end ++ bytes)) (cut_at_column body)
    ∙ parted_so front (column_of body) back (end ++ bytes) in
    let put_in : (((front ++ put) ++ back) ++ end) ++ written ≡ front ++ (put ++ (back ++ (end ++ written))) =
    append_assoc ((front ++ put) ++ back) end written
    ∙ ap (λ (l : List ℕ). l ++ (end ++ written)) (append_assoc front put back)
    ∙ parted_so front put back (end ++ written) in
    rw (cut, put_in)
    (answered_first run first all _ (back ++ (end ++ bytes)) (back ++ (end ++ written)) is
    (behind run first all back (end ++ bytes) (end ++ written) (behind run first all end bytes written these)))

-- a field in front
one_field : (run : ColumnRun) (first : ℕ) (all : List (List ℕ)) (body end bytes written : List ℕ)
    → ((put : List ℕ) → answer_to run.labels.base run.labels.way (column_of body) ≡ Some put
    → slice_get all (first - first) ≡ Some (column_of body))
    → OnlyThese run first all bytes written
    → OnlyThese run first all ((body ++ end) ++ bytes)
    ((answered_field run.labels.base run.labels.way (is_meant run.columns first) body ++ end) ++ written)
one_field run first all body end bytes written is these = by_meant (is_meant run.columns first) refl
  where
    by_answer : is_meant run.columns first ≡ true → (answer : Option (List ℕ))
        → answer_to run.labels.base run.labels.way (column_of body) ≡ answer
        → OnlyThese run first all ((body ++ end) ++ bytes) ((with_answer body answer ++ end) ++ written)
    by_answer meant None none = field_stays run first all body end bytes written these
    by_answer meant (Some put) said =
        let parts = and_parts (nat_le run.columns.first first) _ meant in
        field_answered run first all body end put bytes written
        (record {
          counted = omega arith;
          from = leb-true run.columns.first first parts.0;
          to = leb-true first run.columns.last parts.1;
          is = is put said;
          answer = said;
        }) these

    by_meant : (meant : Bool) → is_meant run.columns first ≡ meant
        → OnlyThese run first all ((body ++ end) ++ bytes)
        ((answered_field run.labels.base run.labels.way meant body ++ end) ++ written)
    by_meant false meant = field_stays run first all body end bytes written these
    by_meant true meant =
        by_answer meant (answer_to run.labels.base run.labels.way (column_of body)) refl

-- fields, the first of which has a number
fields_change : (run : ColumnRun) (first : ℕ) (fields : List Part)
    → OnlyThese run first (columns_of run.columns.parting fields) (joined fields)
    (answered_from run.labels.base run.labels.way run.columns first fields)
unfolding columns_of answered_from
fields_change run first [] = nothing_changes run first [] []
fields_change run first (field ∷ fields) =
    let parting = run.columns.parting in
    let count = columns_in parting field.body in
    let others = columns_of parting fields in
    let all = (if count == 0 then [] else column_of field.body ∷ []) ++ others in
    let rest = answered_from run.labels.base run.labels.way run.columns (first + count) fields in
    one_field run first all field.body field.end (joined fields) rest
    (λ put said. column_is count (column_of field.body) others (few_columns parting field.body)
    (λ none. none_said run parting field.body put none said))
    (later run first count (column_of field.body) others (joined fields) rest (few_columns parting field.body)
    (fields_change run (first + count) fields))
  where
    column_is : (count : ℕ) (column : List ℕ) (others : List (List ℕ)) → count ≤ 1 → ¬ (count ≡ 0)
        → slice_get ((if count == 0 then [] else column ∷ []) ++ others) (first - first) ≡ Some column
    column_is zero column others few some = absurd (some refl)
    column_is (suc zero) column others few some = (let none : first - first ≡ 0 = omega arith in rw none refl)
    column_is (suc (suc n)) column others few some = absurd (omega (arith, few))

-- a line
pub line_changes : (run : ColumnRun) → ((ends : ℕ → Bool) (bytes : List ℕ) → joined (parted ends bytes) ≡ bytes)
    → (line : List ℕ)
    → OnlyColumnsChange run line (answered_line run.labels.base run.labels.way run.columns line)
unfolding answered_line
line_changes run whole line =
    let parting = run.columns.parting in
    let front = take (fields_length line) line in
    let back = drop (fields_length line) line in
    let fields = parted (ends_field parting) front in
    let all = line_columns parting line in
    let is : joined fields ++ back ≡ line =
    ap (λ (l : List ℕ). l ++ back) (whole (ends_field parting) front) ∙ take-append-drop (fields_length line) line in
    subst (λ (l : List ℕ). OnlyThese run 1 all l (answered_line run.labels.base run.labels.way run.columns line)) is
    (in_front_of run 1 all (joined fields)
    (answered_from run.labels.base run.labels.way run.columns 1 fields) back (fields_change run 1 fields))

-- one that may be too long
pub any_line_changes : (run : ColumnRun)
    → ((ends : ℕ → Bool) (bytes : List ℕ) → joined (parted ends bytes) ≡ bytes) → (line : List ℕ)
    → OnlyColumnsChange run line (answered_or_long run.labels.base run.labels.way run.columns line)
any_line_changes run whole line = by_length (nat_le (length line) MAX_COLUMN_LINE)
  where
    by_length : (short : Bool) → OnlyColumnsChange run line
        (cond short (answered_line run.labels.base run.labels.way run.columns line) line)
    by_length true = line_changes run whole line
    by_length false = nothing_changes run 1 (line_columns run.columns.parting line) line
