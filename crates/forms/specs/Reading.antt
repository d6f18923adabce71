-- The words behind a command as values, by the slots of a form.
use Rattle.std.specs.Prelude.{◌≡◌, ℕ, ◌+◌, ◌<◌, true, nat_eq, List, [], ◌∷◌, ◌++◌, length}
use Rattle.std.specs.Prelude.{take, slice_get, option_and_then, Option, Some, None, Result, Ok, Err}
use Rattle.forms.specs.Form.{SlotRow, takes}
use Rattle.forms.specs.Number.{Word}
use Rattle.forms.specs.Slot.{FitsIn, value_in}
use Rattle.forms.specs.declared.value.Value.{Value}

-- what is made of a value, if there is no fault
abbrev pub map_ok : {X Y E : Type 0} → (X → Y) → Result X E → Result Y E
map_ok make (Ok value) = Ok (make value)
map_ok make (Err fault) = Err fault

-- the values of words in slots, from the left, after the values before them; or the place of the first word that has
-- none: the first word of all has place 1
unfoldable pub read_on : List Value → List SlotRow → List Word → Result (List Value) ℕ
read_on before slots [] = Ok before
read_on before [] (word ∷ words) = Err (length before + 1)
read_on before (slot ∷ slots) (word ∷ words) =
    elim (value_in slot.0 slot.1 before (nat_eq (length words) 0) word) [
      | None ↦ Err (length before + 1)
      | Some value ↦ read_on (before ++ value ∷ []) slots words
    ]

abbrev pub read : List SlotRow → List Word → Result (List Value) ℕ
read slots words = read_on [] slots words

-- ---- what reading is: a law says that it is so

-- what the word at a place is in the slot there, after the values before it
abbrev pub value_at : List SlotRow → List Word → List Value → ℕ → Option Value
value_at slots words before k =
    option_and_then (λ slot. option_and_then (value_in slot.0 slot.1 before (nat_eq (k + 1) (length words)))
    (slice_get words k)) (slice_get slots k)

-- each of the values is what its word is, after the values before it
abbrev pub AreValues : List SlotRow → List Word → List Value → Type 0
AreValues slots words values =
    (k : ℕ) → k < length values → value_at slots words (take k values) k ≡ slice_get values k

-- ---- what is known of values that were read

-- each value fits its slot, after the values before it
unfoldable pub AreFitAfter : List Value → List SlotRow → List Value → Type 0
AreFitAfter before slots [] = Unit {0}
AreFitAfter before [] (value ∷ values) = ⊥
AreFitAfter before (slot ∷ slots) (value ∷ values) =
    FitsIn slot.0 slot.1 before value × AreFitAfter (before ++ value ∷ []) slots values

abbrev pub AreFit : List SlotRow → List Value → Type 0
AreFit slots values = AreFitAfter [] slots values

-- some values and as many more as there are words, which fit
abbrev pub FitOn : List Value → List SlotRow → ℕ → List Value → Type 0
FitOn before slots count values =
    (more : List Value) × (values ≡ before ++ more) × (length more ≡ count) × AreFitAfter before slots more

-- as many as may be there, which fit
abbrev pub AreRead : List SlotRow → List Value → Type 0
AreRead slots values = AreFit slots values × (takes slots (length values) ≡ true)
