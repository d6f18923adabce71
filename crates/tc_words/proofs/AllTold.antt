-- Of all words that a command takes each is named by its page, since the page names what each slot of each form takes.
use Rattle.std.proofs.Common.{◌≡◌, ℕ, Bool, true, false, ◌&&◌, List, [], ◌∷◌, ◌++◌, Some, None, Ok, Err, refl}
use Rattle.std.proofs.Common.{length, nat_eq, cond, arith, ◌+◌}
use Rattle.std.specs.declared.option.Option.{Option}
use Rattle.std.specs.declared.result.Result.{Result}
use Rattle.std.specs.List.{find, list_all}
use Rattle.std.specs.Result.{is_ok}
use Rattle.std.specs.Fmt.{digits}
use Rattle.std.specs.Str.{bytes_eq}
use Rattle.std.proofs.lemmas.Bool.{and_parts}
use Rattle.std.proofs.lemmas.Slice.Eq.{bytes_eq-Decides}
use Rattle.forms.specs.Choice.{choices}
use Rattle.forms.specs.Form.{Row, SlotRow, form_of, forms, is_form_of, takes}
use Rattle.forms.specs.Named.{task_by, task_of}
use Rattle.forms.specs.Made.{task_in}
use Rattle.forms.specs.Number.{Word, between, number_spelled}
use Rattle.tc_job.specs.declared.fault.WordsFault.TheVariants as faults
use Rattle.tc_job.specs.declared.job.Task.{Task}
use Rattle.forms.specs.Reading.{read, read_on}
use Rattle.forms.specs.Slot.{columns_read, value_in}
use Rattle.forms.specs.declared.value.Value.{Value}
use Rattle.tc_words.specs.Forms.{between_bars}
use Rattle.forms.specs.Help.{range_text, ways, ways_by}
use Rattle.tc_words.specs.Pages.{AreNamed, are_told, between_spaces, rows_from, slot_rows, value_rows}
use Rattle.tc_words.proofs.SlotsTold.{names_need, names_slot, names_slots, slot_tells}

read_told : (command : Word) (place : ℕ) (before : List Value) (slots : List SlotRow) (words : List Word)
    → names_slots command place slots ≡ true → is_ok (read_on before slots words) ≡ true
    → are_told command place words ≡ true
unfolding read_on
read_told command place before slots [] names ok = refl
read_told command place before [] (word ∷ words) names ok = absurd cc
read_told command place before (slot ∷ slots) (word ∷ words) names ok =
    let all = and_parts (names_need command place slot.0 && names_slot command place slot.1) _ names in
    let here = and_parts (names_need command place slot.0) _ all.0 in
    go (value_in slot.0 slot.1 before (nat_eq (length words) 0) word) refl ok here.0 here.1
    (λ v more. read_told command (place + 1) (before ++ v ∷ []) slots words all.1 more)
  where
    go : (o : Option Value) → value_in slot.0 slot.1 before (nat_eq (length words) 0) word ≡ o → is_ok (elim o [
      | None ↦ Err (length before + 1)
      | Some value ↦ read_on (before ++ value ∷ []) slots words
    ]) ≡ true → names_need command place slot.0 ≡ true → names_slot command place slot.1 ≡ true
        → ((v : Value) → is_ok (read_on (before ++ v ∷ []) slots words) ≡ true
        → are_told command (place + 1) words ≡ true) → are_told command place (word ∷ words) ≡ true
    go None at ok need slot_is more = absurd cc
    go (Some v) at ok need slot_is more =
        rw (slot_tells command place slot.0 slot.1 before (nat_eq (length words) 0) word v need slot_is at) (more v ok)

-- ---- the table

-- the page of each command names what its slots take
each_names : list_all (λ (row : Row). names_slots row.0 1 row.2) forms ≡ true
unfolding digits forms choices between_bars between_spaces between number_spelled columns_read range_text rows_from
    slot_rows value_rows ways ways_by
each_names = refl

-- the form that is found is one of the table
pub found : {X : Type 0} (p q : X → Bool) (xs : List X) (x : X) → list_all q xs ≡ true → find p xs ≡ Some x
    → (p x ≡ true) × (q x ≡ true)
found p q [] x all at = absurd cc
found p q (y ∷ xs) x all at = go (p y) refl at (λ more. found p q xs x (and_parts (q y) _ all).1 more)
  where
    go : (b : Bool) → p y ≡ b → cond b (Some y) (find p xs) ≡ Some x
        → (find p xs ≡ Some x → (p x ≡ true) × (q x ≡ true)) → (p x ≡ true) × (q x ≡ true)
    go true is same more =
        let y_is : y ≡ x = grind (arith, same) in rw (← y_is) (is, (and_parts (q y) _ all).0)
    go false is same more = more same

ok_read : (form : Row) (words : List Word) → is_ok (task_by form words) ≡ true → is_ok (read form.2 words) ≡ true
ok_read form words ok = go (takes form.2 (length words)) (read form.2 words) ok
  where
    go : (b : Bool) (r : Result (List Value) ℕ) → is_ok {T = Task} (cond b (elim r [
      | Ok values ↦ Ok (task_in form.3 values)
      | Err place ↦ Err (faults.Value place)
    ]) (Err faults.CountOfWords)) ≡ true → is_ok r ≡ true
    go true (Ok values) ok = refl
    go true (Err place) ok = absurd cc
    go false r ok = absurd cc

told : (command : Word) (words : List Word) → is_ok (task_of command words) ≡ true → are_told command 1 words ≡ true
unfolding task_of form_of
told command words ok = go (find (is_form_of command words) forms) refl ok
  where
    go : (o : Option Row) → find (is_form_of command words) forms ≡ o
        → is_ok {T = Task} (elim o [ None ↦ Err faults.Command | Some form ↦ task_by form words ]) ≡ true
        → are_told command 1 words ≡ true
    go None at ok = absurd cc
    go (Some form) at ok =
        let is = found (is_form_of command words) (λ (row : Row). names_slots row.0 1 row.2) forms form each_names at in
        let same = (bytes_eq-Decides command form.0).0 (and_parts (bytes_eq command form.0) _ is.0).0 in
        rw same (read_told form.0 1 [] form.2 words is.1 (ok_read form words ok))

pub each_is_named : (table : List (Word × List ℕ)) → AreNamed table
unfolding AreNamed
each_is_named [] = tt
each_is_named (row ∷ table) = (told row.0, each_is_named table)
