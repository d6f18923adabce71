-- What help prints of the forms: how a command is typed, and a line for each value. Both are made of the slots.
use Rattle.std.specs.Prelude.{ℕ, ◌==◌, Bool, true, ◌||◌, List, [], ◌∷◌, ◌++◌}
use Rattle.std.specs.Prelude.{codes, decimal, filter, length, map, get_or}
use Rattle.std.specs.Prelude.{if◌then◌else◌}
use Rattle.std.specs.List.{flat_map, list_all}
use Rattle.std.specs.Str.{bytes_eq}
use Rattle.label_columns.specs.declared.columns.TheConstants.{MAX_COLUMN}
use Rattle.limits.specs.declared.recording.TheConstants.{MAX_TICK_RATE}
use Rattle.tc_job.specs.declared.slicing.TheConstants.{MAX_FINENESS}
use Rattle.tc_job.specs.declared.usages.TheConstants.{USAGES}
use Rattle.tc_job.specs.declared.values.TheConstants.{VALUES}
use Rattle.forms.specs.Choice.{choices}
use Rattle.forms.specs.Form.{Row, SlotRow, forms}
use Rattle.forms.specs.Number.{Word}
use Rattle.forms.specs.Slot.{may_be_left_out}
use Rattle.forms.specs.declared.choices.TheConstants.{NTSC}
use Rattle.forms.specs.declared.names.TheConstants.{NAMES}
use Rattle.forms.specs.declared.slot.Bound.{Bound}
use Rattle.forms.specs.declared.slot.Bound.TheVariants.{Product, Eighth, Below, Rest}
use Rattle.forms.specs.declared.slot.Slot.{Slot}
use Rattle.forms.specs.declared.slot.Slot.TheVariants as slots

-- ---- the tables

-- what a value is called, and what it is
abbrev pub Name : Type 0
Name = Word × List ℕ

-- a way to type a command, as help shows it: the command, the slots, and what their values are called
abbrev pub Way : Type 0
Way = Word × List SlotRow × List Name

-- rows of the table of forms, each with its names
unfoldable pub ways_by : List Row → List (List Name) → List Way
ways_by [] names = []
ways_by (row ∷ rows) [] = []
ways_by (row ∷ rows) (its ∷ names) = (row.0, row.2, its) ∷ ways_by rows names

unfoldable pub ways : List Way
ways = ways_by forms (map {B = List Name} (λ its. map {B = Name} (λ n. (n.0.now, n.1.now)) its.now) NAMES)

-- the ways of a command
abbrev pub ways_of : Word → List Way
ways_of command = filter (λ (way : Way). bytes_eq way.0 command) ways

-- ---- what a slot takes

-- words with a bar between them
abbrev pub barred : List Word → List ℕ
barred [] = []
barred (word ∷ more) = word ++ flat_map (λ other. codes "|" ++ other) more

-- the words of a choice
abbrev pub words_of : ℕ → List Word
words_of choice = map (λ row. row.0) (get_or choices choice [])

-- what a value before it is called
abbrev pub called : List Name → ℕ → List ℕ
called names place = (get_or names place ([], [])).0

-- the greatest number: what the values before it are called, if they alone bound it
abbrev pub bound_text : List Name → ℕ → Bound → List ℕ
bound_text names most (Product place limit) = decimal most
bound_text names most (Eighth one other) = called names one ++ codes "/8"
bound_text names most (Below place) = called names place ++ codes "-1"
bound_text names most (Rest all first) = decimal most

-- what a word in a slot may be, where the values of the form are called so
unfoldable pub range_text : List Name → Slot → List ℕ
range_text names (slots.Number least most) = decimal least ++ codes " to " ++ decimal most
range_text names (slots.Bounded least most bound) = decimal least ++ codes " to " ++ bound_text names most bound
range_text names slots.Seed = codes "0 to 18446744073709551615"
range_text names (slots.OneOf choice) = barred (words_of choice)
range_text names (slots.Label count) = codes "HH:MM:SS:FF"
range_text names (slots.NumberOfDay count) = codes "0 to the last of the day"
range_text names (slots.Ntsc count) = barred (words_of NTSC)
range_text names (slots.PathRate system) = codes "1 to " ++ decimal MAX_TICK_RATE
range_text names (slots.PathFineness system rate) = codes "1 to " ++ decimal MAX_FINENESS
range_text names (slots.Frames count) = codes "0 to 4294967295|HH:MM:SS:FF"
range_text names slots.Columns = codes "1 to " ++ decimal MAX_COLUMN ++ codes "|N-M"
range_text names slots.Topic = []

-- ---- how a command is typed

-- a value in the line of a command: what it is called, or the words of which one is given
abbrev pub typed_value : List Name → Name → Slot → List ℕ
typed_value names name slot = if length name.0 == 0 then range_text names slot else name.0

-- the values of slots, each after a space, and in brackets from one that may be left out on
unfoldable pub typed_slots : List Name → List Name → List SlotRow → List ℕ
typed_slots all [] slots = []
typed_slots all (name ∷ names) [] = []
typed_slots all (name ∷ names) (slot ∷ slots) =
    let more = typed_value all name slot.1 ++ typed_slots all names slots in
    if may_be_left_out slot.0 then codes " [" ++ more ++ codes "]" else codes " " ++ more

-- a command that is typed in one way is shown so, as its line of help says
abbrev pub is_typed_so : List Way → List ℕ → Bool
is_typed_so (way ∷ []) text = bytes_eq (typed_slots way.2 way.2 way.1) text
is_typed_so _ text = true

-- each command of the table of usages
abbrev pub are_typed_so : Bool
are_typed_so = list_all (λ usage. is_typed_so (ways_of usage.0.now) usage.1.now) USAGES

-- ---- the values of its words

-- what a value is called, if it is called something, and what it may be
abbrev pub named_range : List Name → Name → Slot → List ℕ
named_range all name slot = (if length name.0 == 0 then [] else name.0 ++ codes " ") ++ range_text all slot

-- the line of a value: nothing, if what it is stands in another line
abbrev pub value_line : List Name → Name → Slot → List ℕ
value_line all name slot =
    if length name.1 == 0 then [] else codes "  " ++ named_range all name slot ++ codes ": " ++ name.1 ++ codes "\n"

-- the lines of a way
unfoldable pub slot_lines : List Name → List Name → List SlotRow → List ℕ
slot_lines all [] slots = []
slot_lines all (name ∷ names) [] = []
slot_lines all (name ∷ names) (slot ∷ slots) = value_line all name slot.1 ++ slot_lines all names slots

-- the lines of a command, of each of its ways
abbrev pub value_lines : Word → List ℕ
value_lines command = flat_map (λ (way : Way). slot_lines way.2 way.2 way.1) (ways_of command)

-- what its page lists
abbrev pub listed : Word → List ℕ
listed command =
    flat_map (λ row. if bytes_eq row.0.now command then row.1.0.now ++ row.1.1.now ++ row.1.2.now ++ codes "\n" else [])
    VALUES

-- the page of each command lists these lines. What the word of `help` may be is said in another way
abbrev pub are_listed_so : Bool
are_listed_so = list_all (λ usage. bytes_eq usage.0.now (codes "help")
    || bytes_eq (listed usage.0.now) (value_lines usage.0.now)) USAGES
