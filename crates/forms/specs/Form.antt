-- How a command is typed, and the form by which its words are read.
use Rattle.std.specs.Prelude.{ℕ, nat_eq, Bool, true, false, ◌&&◌, List, [], ◌∷◌, length, map, slice_get}
use Rattle.std.specs.Prelude.{Option, Some, None}
use Rattle.std.specs.List.{find}
use Rattle.std.specs.Option.{is_some}
use Rattle.std.specs.Str.{bytes_eq}
use Rattle.forms.specs.Choice.{said_by}
use Rattle.forms.specs.Number.{Word}
use Rattle.forms.specs.Slot.{may_be_left_out}
use Rattle.forms.specs.declared.command.Command.{Command}
use Rattle.forms.specs.declared.slot.Need.{Need}
use Rattle.forms.specs.declared.slot.Slot.{Slot}
use Rattle.forms.specs.declared.table.TheConstants.{FORMS}

-- a slot, and whether its word has to be there
abbrev pub SlotRow : Type 0
SlotRow = Need × Slot

-- the word of a command; the places at which words of some choices have to stand; the slots; and which job it is
abbrev pub Row : Type 0
Row = Word × List (ℕ × ℕ) × List SlotRow × Command

-- so many words may stand behind the command: one for each slot, or for those before one that may be left out
abbrev pub takes : List SlotRow → ℕ → Bool
takes slots n = elim (slice_get slots n) [ None ↦ nat_eq n (length slots) | Some row ↦ may_be_left_out row.0 ]

-- a word of the choice stands at the place
abbrev pub is_met : ℕ → ℕ → List Word → Bool
is_met place choice words =
    elim (slice_get words place) [ None ↦ false | Some word ↦ is_some (said_by choice word) ]

-- each mark stands in the words
abbrev pub are_met : List (ℕ × ℕ) → List Word → Bool
are_met [] words = true
are_met (mark ∷ marks) words = is_met mark.0 mark.1 words && are_met marks words

-- the words behind a command are read by this form
abbrev pub is_form_of : Word → List Word → Row → Bool
is_form_of command words row = bytes_eq command row.0 && are_met row.1 words

-- the table
unfoldable pub forms : List Row
forms = map (λ f. (f.0.now, f.1.now, f.2.now, f.3)) FORMS

-- the first such form
unfoldable pub form_of : Word → List Word → Option Row
form_of command words = find (is_form_of command words) forms
