-- What the pages of help name, and what is read: the values of a line, and the examples.
use Rattle.std.specs.Prelude.{◌≡◌, ℕ, ◌+◌, ◌-◌, ◌==◌, nat_eq, nat_le, nat_lt, Bool, true}
use Rattle.std.specs.Prelude.{false, ◌&&◌, ◌||◌, List, [], ◌∷◌, ◌++◌}
use Rattle.std.specs.Prelude.{codes, length, drop, take, map, if◌then◌else◌}
use Rattle.std.specs.Prelude.{Result, Ok, Err}
use Rattle.std.specs.Char.{is_ascii_digit}
use Rattle.std.specs.List.{flat_map, list_all, list_any, AllByRecursion}
use Rattle.std.specs.Option.{is_some}
use Rattle.std.specs.Result.{is_ok}
use Rattle.std.specs.Str.{bytes_eq}
use Rattle.std.specs.Str.Parse.{digits_value}
use Rattle.tc_address.specs.declared.count.Count.TheVariants.{C24, C25, C30, Drop30}
use Rattle.tc_address.specs.Spelling.{label_in}
use Rattle.tc_job.specs.declared.fault.WordsFault.{WordsFault}
use Rattle.tc_job.specs.declared.fault.WordsFault.TheVariants.{Value}
use Rattle.tc_job.specs.declared.job.Task.{Task}
use Rattle.tc_job.specs.declared.pages.TheConstants.{EXAMPLES}
use Rattle.tc_job.specs.declared.values.TheConstants.{VALUES}
use Rattle.forms.specs.Form.{SlotRow}
use Rattle.forms.specs.Help.{Name, Way, range_text, ways, ways_of}
use Rattle.forms.specs.declared.slot.Need.{Need}
use Rattle.forms.specs.declared.slot.Need.TheVariants.{OrLive}
use Rattle.tc_words.specs.Forms.{between_bars, in_front, rows}
use Rattle.forms.specs.Number.{Word, between, number_spelled}
use Rattle.forms.specs.Named.{task_of}
use Rattle.forms.specs.Slot.{columns_read}

-- ---- the values that a text names

-- words with a space between them
unfoldable pub between_spaces : List ℕ → List Word
between_spaces [] = [] ∷ []
between_spaces (byte ∷ more) = if byte == 0x20 then [] ∷ between_spaces more else in_front byte (between_spaces more)

-- `HH:MM:SS:FF` stands for the labels
abbrev pub is_of_labels : List ℕ → Bool
is_of_labels values = bytes_eq values (codes "HH:MM:SS:FF")

-- `N-M` stands for neighbouring columns
abbrev pub is_of_columns : List ℕ → Bool
is_of_columns values = bytes_eq values (codes "N-M")

-- a label of some count
abbrev pub is_label : Word → Bool
is_label word = list_any (λ count. is_some (label_in count word)) (C24 ∷ C25 ∷ C30 ∷ Drop30 ∷ [])

abbrev pub are_digits : Word → Bool
are_digits = list_all is_ascii_digit

-- a word that stands for itself, or a number: of the range, if the text is `A to B`
abbrev pub is_among : List Word → Word → Bool
is_among (one ∷ []) word = bytes_eq word one
is_among (first ∷ to ∷ last ∷ []) word =
    if are_digits last then is_some (between (digits_value 10 first) (digits_value 10 last) word)
    else is_some (number_spelled word)
is_among _ word = is_some (number_spelled word)

-- one text names the word
abbrev pub is_named_by : Word → List ℕ → Bool
is_named_by word values =
    if is_of_labels values then is_label word
    else if is_of_columns values then is_some (columns_read word)
    else is_among (between_spaces values) word

-- one of some texts with bars between them names the word
abbrev pub is_named : List ℕ → Word → Bool
is_named values word = list_any (is_named_by word) (between_bars values)

-- the values that one text spells: the word, or both ends of a range
abbrev pub spelled_among : List Word → List Word
spelled_among (one ∷ []) = one ∷ []
spelled_among (first ∷ to ∷ last ∷ []) = if are_digits last then first ∷ last ∷ [] else first ∷ []
spelled_among _ = []

abbrev pub spelled_by : List ℕ → List Word
spelled_by values =
    if is_of_labels values || is_of_columns values then [] else spelled_among (between_spaces values)

-- those of all of them
abbrev pub spelled_in : List ℕ → List Word
spelled_in values = flat_map spelled_by (between_bars values)

-- ---- the tables

-- the values that a page names at a word of a command. The command is word 0
pub record ValueRow : Type 0 where
  pub command : Word
  pub named : List ℕ
  pub place : ℕ

abbrev pub row_at : Word → ℕ → List ℕ → List ValueRow
row_at command place named =
    if length named == 0 then [] else record { command = command; named = named; place = place } ∷ []

-- the last word may be `live`
abbrev pub live_at : Word → ℕ → Need → List ValueRow
live_at command place OrLive = row_at command place (codes "live")
live_at command place _ = []

-- what help prints of slots, from a place on
unfoldable pub rows_from : Word → List Name → ℕ → List SlotRow → List ValueRow
rows_from command names place [] = []
rows_from command names place (slot ∷ slots) =
    row_at command place (range_text names slot.1) ++ live_at command place slot.0
    ++ rows_from command names (place + 1) slots

-- of each way
unfoldable pub slot_rows : List ValueRow
slot_rows = flat_map (λ (way : Way). rows_from way.0 way.2 1 way.1) ways

-- and what the page of `help` lists besides: the rows of the table in which words of the command stand by themselves
unfoldable pub value_rows : List ValueRow
value_rows = slot_rows ++ flat_map (λ row. row_at row.0.now 1 row.1.1.now) VALUES

-- what stands in the lines of a way that say what a value is
unfoldable pub shown_by : List Name → List Name → List SlotRow → List (List ℕ)
shown_by all [] slots = []
shown_by all (name ∷ names) [] = []
shown_by all (name ∷ names) (slot ∷ slots) =
    if length name.1 == 0 then shown_by all names slots else range_text all slot.1 ∷ shown_by all names slots

-- what help prints of each slot stands in a line of its command
unfoldable pub are_shown : Bool
are_shown = list_all (λ (row : ValueRow). list_any (bytes_eq row.named)
    (flat_map (λ (way : Way). shown_by way.2 way.2 way.1) (ways_of row.command))) slot_rows

-- an example of a command: what is shown before its words, and these
pub record ExampleRow : Type 0 where
  pub command : Word
  pub before : List ℕ
  pub words : List Word

-- the words in a text, each after a space
abbrev pub words_of : List ℕ → List Word
words_of text = drop 1 (between_spaces text)

abbrev pub example_rows : List ExampleRow
example_rows =
    map (λ row. record { command = row.0.now; before = row.1.0.now; words = words_of row.1.1.now }) EXAMPLES

-- ---- what is read is named

-- the page of the command names this value at this place
abbrev pub is_told : Word → ℕ → Word → Bool
is_told command place value =
    list_any (λ (row : ValueRow).
    bytes_eq row.command command && nat_eq row.place place && is_named row.named value)
    value_rows

-- each of the words, from this place on
abbrev pub are_told : Word → ℕ → List Word → Bool
are_told command place [] = true
are_told command place (word ∷ more) = is_told command place word && are_told command (place + 1) more

-- of the words that a command takes, each is named by its page at its place
unfoldable pub AreNamed : List (Word × List ℕ) → Type 0
AreNamed table =
    AllByRecursion (λ row. (values : List Word) → is_ok (task_of row.0 values) ≡ true → are_told row.0 1 values ≡ true)
    table

-- ---- what is named is read

-- the words are taken, or the first fault is of a word after this place
abbrev pub is_past : ℕ → Result Task WordsFault → Bool
is_past place (Ok task) = true
is_past place (Err (Value at)) = nat_lt place at
is_past place _ = false

-- in an example, this value at this place is read
abbrev pub is_read_in : List Word → ℕ → Word → Word → Bool
is_read_in words place command value =
    nat_le place (length words + 1)
    && is_past place (task_of command (take (place - 1) words ++ value ∷ drop place words))

-- in an example of the command, at a place at which its page names the same
abbrev pub is_read : ValueRow → Word → Bool
is_read row value =
    list_any (λ (other : ValueRow). bytes_eq other.command row.command && bytes_eq other.named row.named
    && list_any (λ (example : ExampleRow). bytes_eq example.command row.command
    && is_read_in example.words other.place row.command value) example_rows) value_rows

-- each value that a row spells is read
unfoldable pub are_values_read : Bool
are_values_read = list_all (λ (row : ValueRow). list_all (is_read row) (spelled_in row.named)) value_rows

-- ---- examples

-- the text ends so
abbrev pub ends_with : List ℕ → List ℕ → Bool
ends_with end text = bytes_eq (drop (length text - length end) text) end

-- the line shows the command, and it takes the words that follow
abbrev pub is_taken : ExampleRow → Bool
is_taken example =
    ends_with (codes "tc " ++ example.command) example.before && is_ok (task_of example.command example.words)

-- each command of the table has an example, and each example is taken
unfoldable pub are_examples_taken : Bool
are_examples_taken =
    list_all (λ row. list_any (λ (example : ExampleRow). bytes_eq example.command row.0) example_rows) rows
    && list_all is_taken example_rows
