-- What is written of a line field by field: the part up to a place, and what is still answered behind it.
use Rattle.std.proofs.Common.{Bool, ◌≡◌, ℕ, ◌+◌, ◌-◌, ◌<◌, ◌≤◌, true, false, nat_le, min, List, [], ◌∷◌, ◌++◌}
use Rattle.std.proofs.Common.{length, take, drop, refl, sym, ap, ap₂, ◌∙◌, arith, append_assoc, take-add, Some, None}
use Rattle.std.proofs.Common.{length-drop}
use Rattle.std.specs.declared.option.Option.{Option}
use Rattle.std.specs.List.{position_or_len}
use Rattle.std.proofs.Math.Bool.{and-false}
use Rattle.std.proofs.lemmas.Bool.{lt-leb}
use Rattle.std.proofs.lemmas.Grind.{common_steps}
use Rattle.std.proofs.lemmas.List.{drop-take, drop_all, length-take-le, take-append-drop}
use Rattle.column_command.proofs.FirstField.{parted_first}
use Rattle.label_columns.specs.Columns.{answer_to, answered_field, answered_from, before, column_length, column_of}
use Rattle.label_columns.specs.Columns.{answered_line, columns_in, ends_field, fields_length, is_meant, with_answer}
use Rattle.label_columns.specs.Parts.{Part, joined, parted}
use Rattle.tc_job.specs.declared.column_run.ColumnRun.{ColumnRun}

-- ---- a stretch of a line

abbrev pub stretch : ℕ → ℕ → List ℕ → List ℕ
stretch from to line = take (to - from) (drop from line)

drop_on : (line : List ℕ) (a b : ℕ) → a ≤ b → drop (b - a) (drop a line) ≡ drop b line
drop_on line a b first = grind (arith, common_steps)

-- the front of what is behind a place
front_behind : (line : List ℕ) (a b : ℕ) → a ≤ b → drop a (take b line) ≡ stretch a b line
front_behind line a b first =
    let n : b ≡ a + (b - a) = omega (arith, first) in
    ap (λ (k : ℕ). drop a (take k line)) n ∙ drop-take a (b - a) line

front_of_front : (line : List ℕ) (n m : ℕ) → n ≤ m → take n (take m line) ≡ take n line
front_of_front line n m less = grind (arith, common_steps)

pub stretches_join : (line : List ℕ) (a b c : ℕ) → a ≤ b → b ≤ c → stretch a b line ++ stretch b c line ≡ stretch a c line
stretches_join line a b c first then =
    let n : c - a ≡ (b - a) + (c - b) = omega (arith, first, then) in
    sym (ap (λ (k : ℕ). take k (drop a line)) n ∙ take-add (b - a) (c - b) (drop a line)
    ∙ ap (λ (l : List ℕ). stretch a b line ++ take (c - b) l) (drop_on line a b first))

-- the separator behind a field
end_of : (fields : List ℕ) (at k next : ℕ) → at + k ≤ length fields → next ≡ min (length fields) (at + k + 1)
    → stretch (at + k) next fields ≡ take 1 (drop k (drop at fields))
end_of fields at k next most is = grind (arith, common_steps)

new_stretch : (fields : List ℕ) (at k next put_now : ℕ) → put_now ≤ at + k → at + k ≤ length fields
    → next ≡ min (length fields) (at + k + 1)
    → stretch put_now next fields ≡ drop put_now (take (at + k) fields) ++ take 1 (drop k (drop at fields))
new_stretch fields at k next put_now now most is =
    let joined = stretches_join fields put_now (at + k) next now (omega (arith, is, most)) in
    let front = sym (front_behind fields put_now (at + k) now) in
    let end = end_of fields at k next most is in
    sym joined ∙ ap₂ (λ (a b : List ℕ). a ++ b) front end

pub next_drop : (fields : List ℕ) (at k next : ℕ) → at + k ≤ length fields → next ≡ min (length fields) (at + k + 1)
    → drop (k + 1) (drop at fields) ≡ drop next fields
next_drop fields at k next most is = grind (arith, common_steps)

-- ---- what is answered from a place on

-- of fields of a line, whose first column has this number
abbrev pub answers_from : ColumnRun → ℕ → List ℕ → List ℕ
answers_from run number fields =
    answered_from run.labels.base run.labels.way run.columns number (parted (ends_field run.columns.parting) fields)

-- the first field and the others
pub field_first : (run : ColumnRun) (number : ℕ) (fields : List ℕ) (k : ℕ) → 0 < length fields
    → k ≡ position_or_len (ends_field run.columns.parting) fields
    → answers_from run number fields
    ≡ answered_field run.labels.base run.labels.way (is_meant run.columns number) (take k fields)
    ++ take 1 (drop k fields) ++ answers_from run (number + columns_in run.columns.parting (take k fields))
    (drop (k + 1) fields)
unfolding answered_from
field_first run number fields k some is =
    rw is (ap (answered_from run.labels.base run.labels.way run.columns number)
    (parted_first (ends_field run.columns.parting) fields some))

-- behind the last column nothing is answered
none_meant : (run : ColumnRun) (number : ℕ) (fields : List Part) → run.columns.last < number
    → answered_from run.labels.base run.labels.way run.columns number fields ≡ joined fields
unfolding answered_from
none_meant run number [] past = refl
none_meant run number (field ∷ fields) past =
    rw (
      lt-leb number run.columns.last past,
      and-false (nat_le run.columns.first number),
      none_meant run (number + columns_in run.columns.parting field.body) fields (omega (arith, past)),
    ) refl

pub rest_stays : ((ends : ℕ → Bool) (bytes : List ℕ) → joined (parted ends bytes) ≡ bytes) → (run : ColumnRun) (number : ℕ) (fields : List ℕ) → run.columns.last < number
    → answers_from run number fields ≡ fields
rest_stays whole run number fields past =
    none_meant run number (parted (ends_field run.columns.parting) fields) past
    ∙ whole (ends_field run.columns.parting) fields

pub none_left : (run : ColumnRun) (number : ℕ) → answers_from run number [] ≡ []
unfolding parted answered_from
none_left run number = refl

-- ---- a field

-- one that has no answer in it
pub kept_whole : (fields : List ℕ) (put at : ℕ) → put ≤ at → at ≤ length fields
    → drop put fields ≡ take (at - put) (drop put fields) ++ drop at fields
kept_whole fields put at behind within =
    sym (take-append-drop (at - put) (drop put fields))
    ∙ ap (λ (l : List ℕ). take (at - put) (drop put fields) ++ l) (drop_on fields put at behind)

-- one with an answer
answer_put : (fields answer : List ℕ) (put at from count : ℕ) → put ≤ at → at + from + count ≤ length fields
    → (take (at + from - put) (drop put fields) ++ answer) ++ drop (at + from + count) fields
    ≡ take (at - put) (drop put fields) ++ (take from (drop at fields) ++ answer ++ drop (from + count) (drop at fields))
answer_put fields answer put at from count behind within =
    let n : at + from - put ≡ (at - put) + from = omega (arith, behind) in
    let first = ap (λ (k : ℕ). take k (drop put fields)) n ∙ take-add (at - put) from (drop put fields)
    ∙ ap (λ (l : List ℕ). take (at - put) (drop put fields) ++ take from l) (drop_on fields put at behind) in
    let m : at + from + count - at ≡ from + count = omega arith in
    let last = sym (drop_on fields at (at + from + count) (omega arith)) ∙ ap (λ (k : ℕ). drop k (drop at fields)) m in
    let front = take (at - put) (drop put fields) in
    let before = take from (drop at fields) in
    let rest = drop (from + count) (drop at fields) in
    ap₂ (λ (a b : List ℕ). (a ++ answer) ++ b) first last
    ∙ ap (λ (l : List ℕ). l ++ rest) (append_assoc front before answer)
    ∙ append_assoc front (before ++ answer) rest

-- what is answered of a field that is meant
field_is : (run : ColumnRun) (number : ℕ) (field : List ℕ) (answer : Option (List ℕ))
    → is_meant run.columns number ≡ true
    → answer_to run.labels.base run.labels.way (column_of field) ≡ answer
    → answered_field run.labels.base run.labels.way (is_meant run.columns number) field ≡ with_answer field answer
field_is run number field answer meant is = rw meant (ap (with_answer field) is)

pub not_meant : (run : ColumnRun) (number : ℕ) (fields : List ℕ) (put at : ℕ) → put ≤ at → at ≤ length fields
    → is_meant run.columns number ≡ false
    → drop put fields ≡ take (at - put) (drop put fields)
    ++ answered_field run.labels.base run.labels.way (is_meant run.columns number) (drop at fields)
not_meant run number fields put at behind within is = rw is (kept_whole fields put at behind within)

pub no_answer : (run : ColumnRun) (number : ℕ) (fields : List ℕ) (put at : ℕ) → put ≤ at → at ≤ length fields
    → is_meant run.columns number ≡ true
    → answer_to run.labels.base run.labels.way (column_of (drop at fields)) ≡ None
    → drop put fields ≡ take (at - put) (drop put fields)
    ++ answered_field run.labels.base run.labels.way (is_meant run.columns number) (drop at fields)
no_answer run number fields put at behind within meant is =
    kept_whole fields put at behind within
    ∙ ap (λ (l : List ℕ). take (at - put) (drop put fields) ++ l)
    (sym (field_is run number (drop at fields) None meant is))

pub answer_in : (run : ColumnRun) (number : ℕ) (fields answer : List ℕ) (put at from count : ℕ) → put ≤ at
    → at + from + count ≤ length fields → from ≡ before (drop at fields) → count ≡ column_length (drop at fields)
    → is_meant run.columns number ≡ true
    → answer_to run.labels.base run.labels.way (column_of (drop at fields)) ≡ Some answer
    → (take (at + from - put) (drop put fields) ++ answer) ++ drop (at + from + count) fields
    ≡ take (at - put) (drop put fields)
    ++ answered_field run.labels.base run.labels.way (is_meant run.columns number) (drop at fields)
answer_in run number fields answer put at from count behind within from_is count_is meant is =
    answer_put fields answer put at from count behind within
    ∙ ap (λ (l : List ℕ). take (at - put) (drop put fields) ++ l)
    (rw (from_is, count_is) (sym (field_is run number (drop at fields) (Some answer) meant is)))

-- a field was written, and the next one follows
pub field_done : (run : ColumnRun) (number put at k next put_now : ℕ) (fields wrote more total : List ℕ)
    → at < length fields → put ≤ at → put_now ≤ at + k → at + k ≤ length fields
    → k ≡ position_or_len (ends_field run.columns.parting) (drop at fields)
    → next ≡ min (length fields) (at + k + 1)
    → wrote ++ (stretch put at fields ++ answers_from run number (drop at fields)) ≡ total
    → more ++ drop put_now (take (at + k) fields) ≡ take (at - put) (drop put (take (at + k) fields))
    ++ answered_field run.labels.base run.labels.way (is_meant run.columns number) (drop at (take (at + k) fields))
    → (wrote ++ more) ++ (stretch put_now next fields
    ++ answers_from run (number + columns_in run.columns.parting (take k (drop at fields))) (drop next fields)) ≡ total
field_done run number put at k next put_now fields wrote more total within behind now most is next_is so_far field =
    let rest = answers_from run (number + columns_in run.columns.parting (take k (drop at fields))) (drop next fields) in
    let answers = answered_field run.labels.base run.labels.way (is_meant run.columns number) (take k (drop at fields)) in
    let kept = drop put_now (take (at + k) fields) in
    let end = take 1 (drop k (drop at fields)) in
    let this : drop at (take (at + k) fields) ≡ take k (drop at fields) = drop-take at k fields in
    let old : take (at - put) (drop put (take (at + k) fields)) ≡ stretch put at fields =
    ap (take (at - put)) (front_behind fields put (at + k) (omega (arith, behind)))
    ∙ front_of_front (drop put fields) (at - put) (at + k - put) (omega arith) in
    let new : stretch put_now next fields ≡ kept ++ end = new_stretch fields at k next put_now now most next_is in
    let behind_it : drop (k + 1) (drop at fields) ≡ drop next fields = next_drop fields at k next most next_is in
    let some : 0 < length (drop at fields) = omega (arith, within, length-drop at fields) in
    let first = field_first run number (drop at fields) k some is in
    let written : more ++ kept ≡ stretch put at fields ++ answers =
    rw this at (field ∙ ap (λ (l : List ℕ). l ++ answered_field run.labels.base run.labels.way
    (is_meant run.columns number) (drop at (take (at + k) fields))) old) in
    ap (λ (l : List ℕ). (wrote ++ more) ++ (l ++ rest)) new
    ∙ append_assoc wrote more ((kept ++ end) ++ rest)
    ∙ ap (λ (l : List ℕ). wrote ++ (more ++ l)) (append_assoc kept end rest)
    ∙ ap (λ (l : List ℕ). wrote ++ l) (sym (append_assoc more kept (end ++ rest)))
    ∙ ap (λ (l : List ℕ). wrote ++ (l ++ (end ++ rest))) written
    ∙ ap (λ (l : List ℕ). wrote ++ l) (append_assoc (stretch put at fields) answers (end ++ rest))
    ∙ ap (λ (l : List ℕ). wrote ++ (stretch put at fields ++ l)) (sym (append_assoc answers end rest))
    ∙ ap (λ (l : List ℕ). wrote ++ (stretch put at fields ++ l))
    (sym (rw behind_it at first))
    ∙ so_far

-- the fields that are left are written as they are
all_put : (run : ColumnRun) (number put at : ℕ) (fields wrote total : List ℕ) → put ≤ at → at ≤ length fields
    → answers_from run number (drop at fields) ≡ drop at fields
    → wrote ++ (stretch put at fields ++ answers_from run number (drop at fields)) ≡ total
    → wrote ++ drop put fields ≡ total
all_put run number put at fields wrote total behind within stays so_far =
    ap (λ (l : List ℕ). wrote ++ l) (kept_whole fields put at behind within
    ∙ ap (λ (l : List ℕ). stretch put at fields ++ l) (sym stays))
    ∙ so_far

pub past_columns : ((ends : ℕ → Bool) (bytes : List ℕ) → joined (parted ends bytes) ≡ bytes)
    → (run : ColumnRun) (number put at : ℕ) (fields wrote total : List ℕ) → put ≤ at → at ≤ length fields
    → run.columns.last < number
    → wrote ++ (stretch put at fields ++ answers_from run number (drop at fields)) ≡ total
    → wrote ++ drop put fields ≡ total
past_columns whole run number put at fields wrote total behind within past so_far =
    all_put run number put at fields wrote total behind within (rest_stays whole run number (drop at fields) past)
    so_far

pub past_fields : (run : ColumnRun) (number put at : ℕ) (fields wrote total : List ℕ) → put ≤ at → at ≤ length fields
    → length fields ≤ at → wrote ++ (stretch put at fields ++ answers_from run number (drop at fields)) ≡ total
    → wrote ++ drop put fields ≡ total
past_fields run number put at fields wrote total behind within past so_far =
    let none : drop at fields ≡ [] = drop_all at fields past in
    all_put run number put at fields wrote total behind within (rw none (none_left run number)) so_far

-- and the ending of the line
pub line_done : (run : ColumnRun) (line wrote : List ℕ) (n : ℕ) → n ≡ fields_length line → n ≤ length line
    → wrote ≡ answers_from run 1 (take n line)
    → wrote ++ drop (length (take n line)) line
    ≡ answered_line run.labels.base run.labels.way run.columns line
unfolding answered_line
line_done run line wrote n is within wrote_is =
    ap₂ (λ (a b : List ℕ). a ++ b) (wrote_is ∙ ap (λ (k : ℕ). answers_from run 1 (take k line)) is)
    (ap (λ (k : ℕ). drop k line) (length-take-le n line within ∙ is))

-- a column, as it is cut out of its field
pub column_cut : (field : List ℕ) (from count : ℕ) → from ≡ before field → count ≡ column_length field
    → take (from + count - from) (drop from field) ≡ column_of field
column_cut field from count from_is count_is =
    let n : from + count - from ≡ count = omega arith in
    ap (λ (k : ℕ). take k (drop from field)) (n ∙ count_is)
    ∙ ap (λ (k : ℕ). take (column_length field) (drop k field)) from_is
