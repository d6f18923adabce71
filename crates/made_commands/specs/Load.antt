-- The load run: a recording of words in cells whose length changes by chance, what is read of it, and the line that
-- says so. The generator is this project's own: the value of a draw is its new state.
use Rattle.std.specs.Prelude.{◌≡◌, ℕ, zero, suc, ◌+◌, ◌-◌, ◌*◌, ◌/◌, ◌%◌, ◌^◌, ◌≤◌, min, max, pos, Bool, true, false}
use Rattle.std.specs.Prelude.{List, [], ◌∷◌, ◌++◌, length}
use Rattle.std.specs.Prelude.{take, drop, codes, decimal, count_by, Option, Some, None, slice_get}
use Rattle.std.specs.List.{last_or}
use Rattle.std.specs.Option.{unwrap_or}
use Rattle.biphase.specs.declared.cell.Cell.{Cell}
use Rattle.biphase.specs.declared.cell.Cell.TheVariants.{Zero, One}
use Rattle.biphase.specs.declared.profile.Profile.TheVariants.{Normal}
use Rattle.biphase.specs.Chain.{flat}
use Rattle.tc_address.specs.declared.count.Count.TheVariants.{C25}
use Rattle.tc_address.specs.declared.direction.Direction.TheVariants.{Forward}
use Rattle.tc_address.specs.declared.system.System.TheVariants.{F25}
use Rattle.tc_address.specs.Label.{Address, address, labels}
use Rattle.tc_address.specs.Numbering.{day_length, step}
use Rattle.tc_address.specs.Spelling.{text_of}
use Rattle.tc_bits.specs.Fields.{field_values}
use Rattle.ltc_word.specs.declared.word.LtcWord.{LtcWord}
use Rattle.tc_bits.specs.Fields.{flags}
use Rattle.direction_reader.specs.declared.event.Event.{Event}
use Rattle.direction_reader.specs.declared.event.Event.TheVariants.{Word, Refused, Lost}
use Rattle.direction_reader.specs.Events.{is_lost, is_refused, is_word}
use Rattle.direction_reader.specs.ListEvents.{AreEvents, duration}
use Rattle.direction_reader.specs.Played.{Played, events_of_words, played_bits}
use Rattle.generator.specs.Draw.{drawn}
use Rattle.tc_job.specs.LoadRun.{Loading}
use Rattle.made_commands.specs.declared.chance.Chance.{Chance}
use Rattle.made_commands.specs.declared.chance.TheConstants.{FIRST_LENGTH, LEAST_LENGTH, GREATEST_LENGTH}
use Rattle.tc_command.specs.Told.{Told, told_made}

-- ---- the generator

-- the length of a cell is within these bounds
abbrev pub IsChance : Chance → Type 0
IsChance g = (LEAST_LENGTH ≤ g.length) × (g.length ≤ GREATEST_LENGTH)

-- the generator of a seed
abbrev pub begins_with : ℕ → Chance
begins_with seed = record { state = seed; length = FIRST_LENGTH }

-- the length of a cell after one of length c: an eighth of c longer or shorter at most, and from 64 to 4,096 ticks
abbrev pub next_length : ℕ → ℕ → ℕ
next_length value c = max LEAST_LENGTH (min GREATEST_LENGTH (c + value / 2 ^ 40 % (2 * (c / 8) + 1) - c / 8))

-- the first half of a one of length c: by a 32nd of c - 16 longer or shorter than the half at most
abbrev pub first_half : ℕ → ℕ → ℕ
first_half value c = c / 2 + value / 2 ^ 20 % (2 * ((c - 16) / 32) + 1) - (c - 16) / 32

-- after one cell
abbrev pub one_cell : Chance → Chance
one_cell g = record { state = drawn g.state; length = next_length (drawn g.state) g.length }

-- the cell of a bit that was drawn last
abbrev pub cell_of : Bool → Chance → Cell
cell_of false g = Zero g.length
cell_of true g = One (first_half g.state g.length) (g.length - first_half g.state g.length)

-- the cells of bits, with a draw each
abbrev pub cells_by : Chance → List Bool → List Cell
cells_by g [] = []
cells_by g (bit ∷ more) = cell_of bit (one_cell g) ∷ cells_by (one_cell g) more

-- after them
abbrev pub behind : Chance → List Bool → Chance
behind g [] = g
behind g (bit ∷ more) = behind (one_cell g) more

-- ---- the recording

-- the word of a label, with the upper half of a draw as its user bits
abbrev pub load_word : Address → ℕ → LtcWord
load_word label value =
    record { fields = field_values label (flags false false false false false) (value / 2 ^ 32); balanced = true }

-- the word of the next draw
abbrev pub next_word : Chance → Address → Played
next_word g label = record { direction = Forward; word = load_word label (drawn g.state) }

-- after the draw of the user bits
abbrev pub one_draw : Chance → Chance
one_draw g = record g { state = drawn g.state }

-- the bits of the word from here on
abbrev pub next_bits : Chance → Address → List Bool
next_bits g label = played_bits (next_word g label)

-- this many words from a label on, each a label further
unfoldable pub words_by : Chance → Address → ℕ → List Played
words_by g label zero = []
words_by g label (suc n) =
    next_word g label ∷ words_by (behind (one_draw g) (next_bits g label)) (step label (pos 1)) n

-- their cells
unfoldable pub word_cells_by : Chance → Address → ℕ → List Cell
word_cells_by g label zero = []
word_cells_by g label (suc n) =
    cells_by (one_draw g) (next_bits g label)
    ++ word_cells_by (behind (one_draw g) (next_bits g label)) (step label (pos 1)) n

-- the bits by which a reader locks
abbrev pub lock : List Bool
lock = false ∷ true ∷ []

-- the generator before the first cell: its state is the seed
abbrev pub begun : Loading → Chance
begun l = begins_with l.seed

-- the label whose number is the seed, modulo the day
abbrev pub first_label : ℕ → Address
first_label seed = unwrap_or (slice_get (labels C25) (seed % day_length C25)) (address C25 0 0 0 0)

-- the words, and the cells of the recording
abbrev pub load_words : Loading → List Played
load_words l = words_by (behind (begun l) lock) (first_label l.seed) l.words

-- the cells of the recording: those by which a reader locks, and then those of its words
abbrev pub load_cells : Loading → List Cell
load_cells l = cells_by (begun l) lock ++ word_cells_by (behind (begun l) lock) (first_label l.seed) l.words

-- ---- what is read

-- the events of the recording: its words
abbrev pub load_events : Loading → List Event
load_events l = events_of_words (duration (take 2 (load_cells l))) (drop 2 (load_cells l)) (load_words l)

-- the labels of the words among events
abbrev pub labels_in : List Event → List Address
labels_in [] = []
labels_in (Word direction word tick length ∷ more) = word.fields.label ∷ labels_in more
labels_in (Refused direction fault tick ∷ more) = labels_in more
labels_in (Lost interval tick ∷ more) = labels_in more

-- the first of them
abbrev pub first_in : List Address → Option Address
first_in [] = None
first_in (label ∷ more) = Some label

-- a label, or that there is none
abbrev pub label_text : Option Address → List ℕ
label_text None = codes "-"
label_text (Some label) = text_of label

-- the line of a run: how many words, refused words and breaks were read, and the labels of the first and the last word
abbrev pub load_line : Loading → List Event → List ℕ
load_line l events =
    codes "load seed " ++ decimal l.seed ++ codes " words " ++ decimal l.words ++ codes " read "
    ++ decimal (count_by is_word events)
    ++ codes " refused " ++ decimal (count_by is_refused events) ++ codes " lost " ++ decimal (count_by is_lost events)
    ++ codes " first " ++ label_text (first_in (labels_in events)) ++ codes " last "
    ++ label_text (last_or None (labels_in events)) ++ codes "\n"

-- what a run writes
abbrev pub load_text : Loading → List ℕ
load_text l = load_line l (load_events l)

-- what was written is the line of the events of the recording, and these are its words: as many are read as were
-- asked, none is refused, and no code is lost
pub record IsAllRead (l : Loading) (written : List ℕ) : Type 0 where
  pub line : written ≡ load_line l (load_events l)
  pub events : AreEvents F25 Normal (flat (load_cells l)) (load_events l)
  pub read : count_by is_word (load_events l) ≡ l.words
  pub refused : count_by is_refused (load_events l) ≡ 0
  pub lost : count_by is_lost (load_events l) ≡ 0

-- what is claimed of `ltc-load`
abbrev pub told_ltc_load : Loading → Told
told_ltc_load l = told_made (load_text l) (IsAllRead l)
