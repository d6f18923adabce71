-- The words that the form of a command makes, as `help` prints it: a word in capitals stands for a value, what stands
-- in brackets may be left out, of words with a bar between them one is given, and so of ways with ` | ` between them.
use Rattle.std.specs.Prelude.{◌≡◌, ℕ, ◌==◌, Bool, true, not, ◌&&◌, List, [], ◌∷◌, ◌++◌, codes, map}
use Rattle.std.specs.Prelude.{if◌then◌else◌}
use Rattle.std.specs.Prelude.{drop, get_or, Option, Some, None}
use Rattle.std.specs.List.{flat_map, list_any, AllByRecursion}
use Rattle.std.specs.Result.{is_ok}
use Rattle.std.specs.Str.{bytes_eq}
use Rattle.tc_job.specs.declared.usages.TheConstants.{USAGES}
use Rattle.forms.specs.Number.{Word}
use Rattle.forms.specs.Named.{task_of}

-- ---- the values

-- a value for each word in capitals
abbrev pub samples : List (Word × Word)
samples =
    (codes "BOUND", codes "2") ∷ (codes "CELL", codes "400") ∷ (codes "COLUMNS", codes "5-8")
    ∷ (codes "COMMAND", codes "help")
    ∷ (codes "COUNT", codes "30")
    ∷ (codes "DIRECTION", codes "backward") ∷ (codes "FINENESS", codes "8") ∷ (codes "FIRST", codes "4")
    ∷ (codes "FRAMES", codes "100") ∷ (codes "HEIGHT", codes "288")
    ∷ (codes "LABEL", codes "19:47:58:23") ∷ (codes "LENGTH", codes "1728") ∷ (codes "LEVEL", codes "8192")
    ∷ (codes "LIMIT", codes "3") ∷ (codes "NUMBER", codes "0") ∷ (codes "RATE", codes "48000")
    ∷ (codes "ROWS", codes "40") ∷ (codes "SEED", codes "53")
    ∷ (codes "SMOOTH", codes "2") ∷ (codes "STEP", codes "1") ∷ (codes "SYSTEM", codes "30")
    ∷ (codes "THRESHOLD", codes "1000") ∷ (codes "TICK-RATE", codes "1920000") ∷ (codes "TO-CELL", codes "500")
    ∷ (codes "TRACK", codes "1") ∷ (codes "VERSION", codes "2") ∷ (codes "WAY", codes "number")
    ∷ (codes "WIDTH", codes "720") ∷ (codes "WORDS", codes "100") ∷ []

-- the value of a word by a table of words
abbrev pub value_in : {X : Type 0} → List (Word × X) → Word → Option X
value_in [] word = None
value_in (row ∷ rows) word = if bytes_eq word row.0 then Some row.1 else value_in rows word

-- a word of a form that is not in capitals stands for itself
abbrev pub or_itself : Word → Option Word → Word
or_itself word None = word
or_itself word (Some value) = value

-- the value that a word in capitals stands for; another word stands for itself
abbrev pub value_of : Word → Word
value_of word = or_itself word (value_in samples word)

-- ---- one word of a form

-- in front of the first of some words
abbrev pub in_front : ℕ → List Word → List Word
in_front byte [] = []
in_front byte (word ∷ words) = (byte ∷ word) ∷ words

-- words with a bar, `|`, between them
unfoldable pub between_bars : List ℕ → List Word
between_bars [] = [] ∷ []
between_bars (byte ∷ more) = if byte == 0x7c then [] ∷ between_bars more else in_front byte (between_bars more)

-- ---- a form

-- some words, in each way in which the form makes them
abbrev pub Ways : Type 0
Ways = List (List Word)

-- either of the first ways, and then either of the others
abbrev pub then_ways : Ways → Ways → Ways
then_ways first next = flat_map (λ way. map (λ more. way ++ more) next) first

-- what is read of the ways in some brackets: from where it is read on to their end or to a bar, and those after the
-- bars
pub record Part : Type 0 where
  pub ways : Ways
  pub others : Ways

-- nothing yet
abbrev pub no_part : Part
no_part = record { ways = [] ∷ []; others = [] }

-- the ways that it allows
abbrev pub ways_in : Part → Ways
ways_in part = part.ways ++ part.others

-- a form as it is read from its end: the letters of a word, what is read of the innermost brackets, and of what comes
-- after these brackets, and after those around them
pub record FormRead : Type 0 where
  pub letters : Word
  pub part : Part
  pub behind : List Part

-- a whole word in front of some ways; no letters are no word
abbrev pub before_ways : Word → Ways → Ways
before_ways [] ways = ways
before_ways word ways = then_ways (map (λ one. value_of one ∷ []) (between_bars word)) ways

-- a bar by itself, in front of ways that may be taken instead
abbrev pub before_bar : Part → Part
before_bar part = record { ways = [] ∷ []; others = ways_in part }

-- a word is whole
abbrev pub with_word : FormRead → FormRead
with_word r = record {
  letters = [];
  part = if bytes_eq r.letters (codes "|") then before_bar r.part
      else record { ways = before_ways r.letters r.part.ways; others = r.part.others };
  behind = r.behind;
}

-- brackets end here
abbrev pub brackets_end : FormRead → FormRead
brackets_end r = record { letters = []; part = no_part; behind = r.part ∷ r.behind }

-- they begin here: what is in them may be left out
abbrev pub brackets_begin : FormRead → FormRead
brackets_begin r =
    let behind = get_or r.behind 0 no_part in
    record {
      letters = [];
      part = record { ways = then_ways ([] ∷ ways_in r.part) behind.ways; others = behind.others };
      behind = drop 1 r.behind;
    }

-- one letter more, a space or a bracket
abbrev pub with_letter : ℕ → FormRead → FormRead
with_letter letter r =
    if letter == 0x20 then with_word r
    else if letter == 0x5d then brackets_end (with_word r)
    else if letter == 0x5b then brackets_begin (with_word r)
    else record r { letters = letter ∷ r.letters }

-- a form, read from its last letter to its first
unfoldable pub read_form : List ℕ → FormRead
read_form [] = record { letters = []; part = no_part; behind = [] }
read_form (letter ∷ more) = with_letter letter (read_form more)

-- the words in each way that the form allows
abbrev pub ways_of : List ℕ → Ways
ways_of form = ways_in (with_word (read_form form)).part

-- ---- the table

-- the word of a command, and its form
abbrev pub rows : List (Word × List ℕ)
rows = map (λ row. (row.0.now, row.1.now)) USAGES

-- no command has two rows
abbrev pub are_once : List (Word × List ℕ) → Bool
are_once [] = true
are_once (row ∷ more) = not (list_any (λ other. bytes_eq row.0 other.0) more) && are_once more

-- each way to make words by a form is taken by its command
abbrev pub AreTaken : List (Word × List ℕ) → Type 0
AreTaken table =
    AllByRecursion (λ row. AllByRecursion (λ words. is_ok (task_of row.0 words) ≡ true) (ways_of row.1)) table
