-- While a script is read, its text gives the rows that were read and then those of what is left of it.
use Rattle.std.proofs.Common.{◌≡◌, ◌⊎◌, ℕ, suc, zero, ◌+◌, ◌<◌, ◌≤◌, List, [], ◌∷◌, ◌++◌, length, Bool, true, false, Ok}
use Rattle.std.proofs.Common.{Err, refl, sym, ◌∙◌, ap, inl}
use Rattle.std.proofs.Common.{inr, arith, append-nil, subst}
use Rattle.std.specs.Prelude.{Some, None, if◌then◌else◌}
use Rattle.std.specs.declared.option.Option.{Option}
use Rattle.std.proofs.lemmas.Grind.{common_steps}
use Rattle.std.proofs.lemmas.List.{append_assoc}
use Rattle.csv.specs.Machine.{Read, next_record, ends_at_end, step, is_end, fields_after, field_after}
use Rattle.csv.specs.Reading.{Reached, default_config, records_from, strip_bom}
use Rattle.csv.specs.declared.parser.State.{State}
use Rattle.csv.specs.declared.parser.State.TheVariants as st
use Rattle.tc_address.specs.declared.count.Count.{Count}
use Rattle.chase_script.specs.declared.column.Column as column
use Rattle.chase_script.specs.declared.fault.RowFault.{RowFault}
use Rattle.chase_script.specs.declared.row.ScriptRow.{ScriptRow}
use Rattle.chase_script.specs.Script.{Field, Script, row_in, rows_from, script_in}
use Rattle.chase_script.specs.KeptRow.{with_row}

-- ---- a record takes bytes

-- the bytes behind a record, if there is one
abbrev rest_of : Option Read → List ℕ
rest_of None = []
rest_of (Some read) = read.2

-- the state behind it
abbrev state_of : Option Read → State
state_of None = st.StartRecord
state_of (Some read) = read.1

one_of : (b : Bool) (x y : Option Read) (read : Read) → (if b then x else y) ≡ Some read → (x ≡ Some read)
    ⊎ (y ≡ Some read)
one_of true x y read e = inl e
one_of false x y read e = inr e

-- the record at the end of the input leaves nothing
at_end : (b : Bool) (fields : List Field) (read : Read) → (if b then Some (fields, st.StartRecord, []) else None)
    ≡ Some read
    → (read.1 ≡ st.StartRecord) × (read.2 ≡ [])
at_end true fields read e = (sym (ap state_of e), sym (ap rest_of e))
at_end false fields read e = cc

pub takes_some : (rest : List ℕ) (c : ℕ) (s : State) (fields : List Field) (field : Field) (read : Read)
    → next_record default_config s fields field (c ∷ rest) ≡ Some read → length read.2 ≤ length rest
unfolding next_record
takes_some [] c s fields field read e =
    elim (one_of (is_end (step default_config s c).1) _ _ read e) [
      | inl here ↦ let same : [] ≡ read.2 = ap rest_of here in rw (← same) (omega arith)
      | inr later ↦ let none = (at_end (ends_at_end (step default_config s c).0) _ read later).1 in
          rw none (omega arith)
    ]
takes_some (d ∷ rest) c s fields field read e =
    elim (one_of (is_end (step default_config s c).1) _ _ read e) [
      | inl here ↦ let same : (d ∷ rest) ≡ read.2 = ap rest_of here in rw (← same) (omega arith)
      | inr later ↦
          let fewer = takes_some rest d (step default_config s c).0
          (fields_after (step default_config s c).1 fields field)
          (field_after (step default_config s c).1 c field) read later in
          omega (arith, fewer)
    ]

-- ---- what is left

-- rows that were read, and then a script
abbrev pub rows_before : List ScriptRow → Script → Script
rows_before rows (Ok more) = Ok (rows ++ more)
rows_before rows (Err fault) = Err fault

-- at most n records are left of bytes
abbrev Suffices : ℕ → State → List ℕ → Type 0
Suffices n s left = (length left < n) ⊎ ((s ≡ st.StartRecord) × (left ≡ []))

-- the script of the text is these rows and then that of what is left of it, from a state
pub record IsLeft (count : Count) (text : List ℕ) (rows : List ScriptRow) (s : State) (left : List ℕ) : Type 0 where
  pub records : ℕ
  pub suffice : Suffices records s left
  pub is : script_in count text ≡ rows_before rows
      (rows_from count (1 + length rows) (records_from default_config records s left))

none_before : (script : Script) → script ≡ rows_before [] script
none_before (Ok rows) = refl
none_before (Err fault) = refl

-- at first all of it is
pub all_is_left : (count : Count) (text : List ℕ) → IsLeft count text [] st.StartRecord (strip_bom text)
all_is_left count text =
    record { records = length (strip_bom text) + 1; suffice = inl (omega arith); is = none_before _ }

row_before : (rows : List ScriptRow) (row : ScriptRow) (script : Script)
    → rows_before rows (with_row row script) ≡ rows_before (rows ++ row ∷ []) script
row_before rows row (Ok more) = ap (λ (all : List ScriptRow). Ok all) (sym (append_assoc rows (row ∷ []) more))
row_before rows row (Err fault) = refl

-- the records from here on, if the next one is there
next_of : (n : ℕ) (s : State) (left : List ℕ) (read : Read) → Suffices n s left
    → next_record default_config s [] [] left ≡ Some read
    → (m : ℕ) × Suffices m read.1 read.2
    × (records_from default_config n s left ≡ read.0 ∷ records_from default_config m read.1 read.2)
unfolding next_record records_from
next_of n s left read (inr end) next = let none : next_record default_config st.StartRecord [] [] [] ≡ Some read =
    rw (end.0, end.1) at next in cc
next_of zero s left read (inl few) next = absurd (omega (arith, few))
next_of (suc m) s [] read (inl few) next =
    let ended = at_end (ends_at_end s) _ read next in
    (m, inr ended, rw next refl)
next_of (suc m) s (c ∷ rest) read (inl few) next =
    let fewer = takes_some rest c s [] [] read next in
    (m, inl (omega (arith, few, fewer)), rw next refl)

-- ---- what comes of a record

-- it is a row
more_of : (count : Count) (text : List ℕ) (rows : List ScriptRow) (s : State) (left : List ℕ) (read : Read)
    (row : ScriptRow)
    → IsLeft count text rows s left → next_record default_config s [] [] left ≡ Some read → row_in count read.0 ≡ Ok row
    → IsLeft count text (rows ++ row ∷ []) read.1 read.2
unfolding rows_from
more_of count text rows s left read row is found reads =
    let next = next_of is.records s left read is.suffice found in
    let rest : Script = rows_from count (suc (1 + length rows)) (records_from default_config next.0 read.1 read.2) in
    let one : rows_from count (1 + length rows) (read.0 ∷ records_from default_config next.0 read.1 read.2) ≡ with_row
    row rest = rw (reads, rows_from) refl in
    let all : script_in count text ≡ rows_before (rows ++ row ∷ []) rest =
    is.is ∙ ap (λ (records : List (List Field)). rows_before rows (rows_from count (1 + length rows) records)) next.2
    ∙ ap (rows_before rows) one ∙ row_before rows row rest in
    let longer : 1 + length (rows ++ row ∷ []) ≡ suc (1 + length rows) = grind (arith, common_steps) in
    record { records = next.0; suffice = next.1; is = rw longer all }

pub a_row_more : (count : Count) (text : List ℕ) (rows : List ScriptRow) (s t : State) (left after : List ℕ)
    (fields : List Field) (row : ScriptRow)
    → IsLeft count text rows s left → Reached default_config s left (fields ∷ []) t after → row_in count fields ≡ Ok row
    → IsLeft count text (rows ++ row ∷ []) t after
unfolding Reached
a_row_more count text rows s t left later fields row is took reads =
    let more = more_of count text rows s left took.0 row is took.1 (ap (row_in count) (sym took.2) ∙ reads) in
    subst (λ (x : State). IsLeft count text (rows ++ row ∷ []) x later) took.3.0
    (subst (λ (y : List ℕ). IsLeft count text (rows ++ row ∷ []) took.0.1 y) took.3.1 more)

-- it is refused
pub a_row_refused : (count : Count) (text : List ℕ) (rows : List ScriptRow) (s t : State) (left after : List ℕ)
    (fields : List Field) (bad : column.Column)
    → IsLeft count text rows s left → Reached default_config s left (fields ∷ []) t after
    → row_in count fields ≡ Err bad
    → script_in count text ≡ Err (record { row = 1 + length rows; column = bad })
unfolding Reached rows_from
a_row_refused count text rows s t left later fields bad is took reads =
    let next = next_of is.records s left took.0 is.suffice took.1 in
    let fault : RowFault = record { row = 1 + length rows; column = bad } in
    let refuses : row_in count took.0.0 ≡ Err bad = ap (row_in count) (sym took.2) ∙ reads in
    let one : rows_from count (1 + length rows) (took.0.0 ∷ records_from default_config next.0 took.0.1 took.0.2)
    ≡ Err fault = rw (refuses, rows_from) refl in
    is.is ∙ ap (λ (records : List (List Field)). rows_before rows (rows_from count (1 + length rows) records)) next.2
    ∙ ap (rows_before rows) one

-- there is none
no_records : (n : ℕ) (s : State) (left : List ℕ) → next_record default_config s [] [] left ≡ None
    → records_from default_config n s left ≡ []
unfolding records_from
no_records zero s left none = refl
no_records (suc n) s left none = rw none refl

pub nothing_left : (count : Count) (text : List ℕ) (rows : List ScriptRow) (s : State) (left : List ℕ)
    → IsLeft count text rows s left → next_record default_config s [] [] left ≡ None → script_in count text ≡ Ok rows
unfolding rows_from
nothing_left count text rows s left is none =
    is.is ∙ ap (λ (records : List (List Field)). rows_before rows (rows_from count (1 + length rows) records))
    (no_records is.records s left none)
    ∙ ap (λ (all : List ScriptRow). Ok all) (append-nil rows)
