-- What help says of one command, and of the exit numbers.
use Rattle.std.specs.Prelude.{ℕ, List, [], ◌++◌, codes, map, slice_get, if◌then◌else◌, Option, Some, None}
use Rattle.std.specs.List.{flat_map}
use Rattle.std.specs.Str.{bytes_eq}
use Rattle.tc_job.specs.declared.pages.TheConstants.{EXAMPLES, EXIT_NUMBERS, SAID}
use Rattle.tc_job.specs.declared.values.TheConstants.{VALUES}
use Rattle.tc_command.specs.Told.{Told, told_text}
use Rattle.made_commands.specs.About.{Usage, usage_line, usages}

-- a topic, which is a command or `statuses`, and a line about it in three parts: a text, the words that a law speaks
-- of, and a text after them
pub record Row : Type 0 where
  pub topic : List ℕ
  pub before : List ℕ
  pub words : List ℕ
  pub behind : List ℕ

abbrev pub row_of : List ℕ → List ℕ → List ℕ → List ℕ → Row
row_of topic before words behind = record { topic = topic; before = before; words = words; behind = behind }

-- the line of a row in the page of this topic: nothing, if it is about another one
abbrev pub line_of : List ℕ → Row → List ℕ
line_of topic row = if bytes_eq row.topic topic then row.before ++ row.words ++ row.behind ++ codes "\n" else []

-- the lines of a topic
abbrev pub page_lines : List ℕ → List Row → List ℕ
page_lines topic rows = flat_map (line_of topic) rows

-- the tables: what each command does, the values of its words, its examples; and the exit numbers
unfoldable pub said : List Row
said = map (λ row. row_of row.0.now row.1.0.now row.1.1.now row.1.2.now) SAID

unfoldable pub values : List Row
values = map (λ row. row_of row.0.now row.1.0.now row.1.1.now row.1.2.now) VALUES

unfoldable pub examples : List Row
examples = map (λ row. row_of row.0.now row.1.0.now row.1.1.now row.1.2.now) EXAMPLES

unfoldable pub exit_numbers : List Row
exit_numbers = map (λ row. row_of row.0.now row.1.0.now row.1.1.now row.1.2.now) EXIT_NUMBERS

-- how a command is typed, what it does, the values of its words, and its examples
abbrev pub text_of : Usage → List ℕ
text_of usage =
    usage_line usage ++ page_lines usage.0 said ++ page_lines usage.0 values ++ page_lines usage.0 examples

-- the page of a row of the table of usages, if there is one
abbrev pub page_at : Option Usage → List ℕ
page_at (Some usage) = text_of usage
page_at None = []

-- the page of the command with this number in such a table
abbrev pub page_in : List Usage → ℕ → List ℕ
page_in table page = page_at (slice_get table page)

unfoldable pub page_text : ℕ → List ℕ
page_text page = page_in usages page

-- a line or more for each status
unfoldable pub statuses_text : List ℕ
statuses_text = page_lines (codes "statuses") exit_numbers

-- what is claimed of `help COMMAND` and `help statuses`
abbrev pub told_page : ℕ → Told
told_page page = told_text (page_text page)

abbrev pub told_statuses : Told
told_statuses = told_text statuses_text
