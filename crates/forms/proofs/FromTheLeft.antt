-- Words are read from the left: each value is what its word is in its slot after the values before it, and the fault is
-- the first word that has none.
use Rattle.std.proofs.Common.{◌≡◌, ◌<◌, ◌+◌, ◌++◌, ◌∙◌, ℕ, zero, suc, nat_eq, List, [], ◌∷◌, length, take}
use Rattle.std.proofs.Common.{Some, None, Ok, Err, refl, ap, sym, arith}
use Rattle.std.specs.Prelude.{slice_get}
use Rattle.std.specs.declared.option.Option.{Option}
use Rattle.std.specs.declared.result.Result.{Result}
use Rattle.std.proofs.lemmas.Bool.Decides.{nat_tests}
use Rattle.std.proofs.lemmas.List.{append-nil, append_assoc, length-append}
use Rattle.forms.specs.Form.{SlotRow}
use Rattle.forms.specs.Number.{Word}
use Rattle.forms.specs.Reading.{AreValues, read, read_on, value_at}
use Rattle.forms.specs.Slot.{value_in}
use Rattle.forms.specs.declared.value.Value.{Value}

-- whether a word is the last one
first_is_last : (word : Word) (words : List Word) → nat_eq (0 + 1) (length (word ∷ words)) ≡ nat_eq (length words) 0
first_is_last word words = grind (arith, nat_tests)

next_is_last : (k : ℕ) (word : Word) (words : List Word)
    → nat_eq (suc k + 1) (length (word ∷ words)) ≡ nat_eq (k + 1) (length words)
next_is_last k word words = grind (arith, nat_tests)

-- the value of the first word, and of those behind it
first_value : (slot : SlotRow) (slots : List SlotRow) (word : Word) (words : List Word) (before : List Value)
    → value_at (slot ∷ slots) (word ∷ words) (before ++ []) 0
    ≡ value_in slot.0 slot.1 before (nat_eq (length words) 0) word
first_value slot slots word words before = rw (append-nil before, first_is_last word words) refl

next_value : (slot : SlotRow) (slots : List SlotRow) (word : Word) (words : List Word) (before : List Value) (v : Value)
    (more : List Value) (k : ℕ) → value_at (slot ∷ slots) (word ∷ words) (before ++ v ∷ more) (suc k)
    ≡ value_at slots words ((before ++ v ∷ []) ++ more) k
next_value slot slots word words before v more k =
    rw (append_assoc before (v ∷ []) more, next_is_last k word words) refl

-- after some values, more that are each what its word is
Follow : List Value → List SlotRow → List Word → List Value → Type 0
Follow before slots words more =
    (k : ℕ) → k < length more → value_at slots words (before ++ take k more) k ≡ slice_get more k

follow_one : (slot : SlotRow) (slots : List SlotRow) (word : Word) (words : List Word) (before : List Value) (v : Value)
    (more : List Value) → value_in slot.0 slot.1 before (nat_eq (length words) 0) word ≡ Some v
    → Follow (before ++ v ∷ []) slots words more → Follow before (slot ∷ slots) (word ∷ words) (v ∷ more)
unfolding Follow
follow_one slot slots word words before v more at each zero within = first_value slot slots word words before ∙ at
follow_one slot slots word words before v more at each (suc k) within =
    next_value slot slots word words before v (take k more) k ∙ each k (omega (arith, within))

follow_none : (before : List Value) (slots : List SlotRow) (words : List Word) → Follow before slots words []
unfolding Follow
follow_none before slots words k within = absurd (omega (arith, within))

-- what was read
Read : List Value → List SlotRow → List Word → List Value → Type 0
Read before slots words values =
    (more : List Value) × (values ≡ before ++ more) × (length more ≡ length words) × Follow before slots words more

-- what follows from the value of a word
abbrev on_value : List Value → List SlotRow → List Word → Option Value → Result (List Value) ℕ
on_value before slots words None = Err (length before + 1)
on_value before slots words (Some value) = read_on (before ++ value ∷ []) slots words

values_of : (before : List Value) (slots : List SlotRow) (words : List Word) (values : List Value)
    → read_on before slots words ≡ Ok values → Read before slots words values
unfolding read_on Read
values_of before slots [] values is =
    let same : before ≡ values = grind (arith, is) in
    ([], sym same ∙ sym (append-nil before), refl, follow_none before slots [])
values_of before [] (word ∷ words) values is = absurd cc
values_of before (slot ∷ slots) (word ∷ words) values is =
    go (value_in slot.0 slot.1 before (nat_eq (length words) 0) word) refl is
    (λ v more. values_of (before ++ v ∷ []) slots words values more)
  where
    go : (o : Option Value) → value_in slot.0 slot.1 before (nat_eq (length words) 0) word ≡ o → on_value before slots words o ≡ Ok values
        → ((v : Value) → read_on (before ++ v ∷ []) slots words ≡ Ok values
        → Read (before ++ v ∷ []) slots words values) → Read before (slot ∷ slots) (word ∷ words) values
    go None at is next = absurd cc
    go (Some v) at is next =
        let (more, same, count, each) = next v is in (
          v ∷ more,
          same ∙ append_assoc before (v ∷ []) more,
          ap suc count,
          follow_one slot slots word words before v more at each,
        )

-- and what was not
Stopped : List Value → List SlotRow → List Word → ℕ → Type 0
Stopped before slots words place =
    (more : List Value) × (length before + length more + 1 ≡ place) × Follow before slots words more
    × (value_at slots words (before ++ more) (length more) ≡ None)

longer : (before : List Value) (v : Value) (more : List Value) (place : ℕ)
    → length (before ++ v ∷ []) + length more + 1 ≡ place → length before + length (v ∷ more) + 1 ≡ place
longer before v more place same =
    let one : length (before ++ v ∷ []) ≡ length before + 1 = length-append before (v ∷ []) in omega (arith, same, one)

fault_of : (before : List Value) (slots : List SlotRow) (words : List Word) (place : ℕ)
    → read_on before slots words ≡ Err place → Stopped before slots words place
unfolding read_on Stopped
fault_of before slots [] place is = absurd cc
fault_of before [] (word ∷ words) place is =
    let same : length before + 1 ≡ place = grind (arith, is) in
    ([], omega (arith, same), follow_none before [] (word ∷ words), refl)
fault_of before (slot ∷ slots) (word ∷ words) place is =
    go (value_in slot.0 slot.1 before (nat_eq (length words) 0) word) refl is
    (λ v more. fault_of (before ++ v ∷ []) slots words place more)
  where
    go : (o : Option Value) → value_in slot.0 slot.1 before (nat_eq (length words) 0) word ≡ o → on_value before slots words o ≡ Err place
        → ((v : Value) → read_on (before ++ v ∷ []) slots words ≡ Err place
        → Stopped (before ++ v ∷ []) slots words place) → Stopped before (slot ∷ slots) (word ∷ words) place
    go None at is next =
        let same : length before + 1 ≡ place = grind (arith, is) in (
          [],
          omega (arith, same),
          follow_none before (slot ∷ slots) (word ∷ words),
          first_value slot slots word words before ∙ at,
        )
    go (Some v) at is next =
        let (more, same, each, none) = next v is in (
          v ∷ more,
          longer before v more place same,
          follow_one slot slots word words before v more at each,
          next_value slot slots word words before v more (length more) ∙ none,
        )

pub all_read : (slots : List SlotRow) (words : List Word) (values : List Value) → read slots words ≡ Ok values
    → (length values ≡ length words) × AreValues slots words values
unfolding Read Follow
all_read slots words values is =
    let (more, same, count, each) = values_of [] slots words values is in rw same (count, each)

pub first_unread : (slots : List SlotRow) (words : List Word) (place : ℕ) → read slots words ≡ Err place
    → (values : List Value) × (length values + 1 ≡ place) × AreValues slots words values
    × (value_at slots words values (length values) ≡ None)
unfolding Stopped Follow
first_unread slots words place is =
    let (more, same, each, none) = fault_of [] slots words place is in (more, omega (arith, same), each, none)
