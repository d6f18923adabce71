-- The columns of a line, and what is answered in those that are meant. This project's own.
use Rattle.std.specs.Prelude.{ℕ, ◌+◌, ◌-◌, Bool, ◌==◌, ◌&&◌, ◌||◌, nat_le, if◌then◌else◌, List, [], ◌∷◌, ◌++◌}
use Rattle.std.specs.Prelude.{take, drop, length, slice_get, Option, Some, None, option_map}
use Rattle.std.specs.List.{prefix_len}
use Rattle.std.specs.Option.{unwrap_or}
use Rattle.label_columns.specs.declared.columns.Columns.{Columns}
use Rattle.label_columns.specs.declared.columns.Parting.{Parting}
use Rattle.label_columns.specs.declared.columns.Parting.TheVariants.{Blanks, Commas, CommasAndSemicolons}
use Rattle.label_columns.specs.declared.columns.TheConstants.{MAX_COLUMN_LINE}
use Rattle.label_columns.specs.Parts.{Part, parted}
use Rattle.label_lines.specs.Answer.{answer}
use Rattle.label_lines.specs.declared.timebase.Timebase.{Timebase}
use Rattle.label_lines.specs.declared.way.Way.{Way}
use Rattle.label_lines.specs.Timebase.{count_of}
use Rattle.tc_address.specs.Spelling.{label_in}

-- ---- what a line is

-- a text is parted into lines by newlines
abbrev pub is_newline : ℕ → Bool
is_newline byte = byte == 10

-- a carriage return at the end of a line belongs to its ending
abbrev pub is_returned : List ℕ → Bool
is_returned line = unwrap_or (slice_get line (length line - 1)) 0 == 13

-- how many bytes of a line its fields have
abbrev pub fields_length : List ℕ → ℕ
fields_length line = if is_returned line then length line - 1 else length line

-- ---- what its columns are

abbrev pub is_blank : ℕ → Bool
is_blank byte = (byte == 32) || (byte == 9)

-- a line is parted into fields by each blank, by each comma, or by each comma and each semicolon
abbrev pub ends_field : Parting → ℕ → Bool
ends_field Blanks byte = is_blank byte
ends_field Commas byte = byte == 44
ends_field CommasAndSemicolons byte = (byte == 44) || (byte == 59)

-- each field between commas is a column, and each between blanks that is not empty
abbrev pub columns_in : Parting → List ℕ → ℕ
columns_in Blanks field = if length field == 0 then 0 else 1
columns_in Commas field = 1
columns_in CommasAndSemicolons field = 1

-- the blanks before the column of a field
abbrev pub before : List ℕ → ℕ
before field = prefix_len is_blank field

-- how many bytes there are up to the last one that is no blank
unfoldable pub up_to_last : List ℕ → ℕ
up_to_last [] = 0
up_to_last (byte ∷ bytes) = if is_blank byte && (up_to_last bytes == 0) then 0 else 1 + up_to_last bytes

-- how many of them are the column
abbrev pub column_length : List ℕ → ℕ
column_length field = up_to_last (drop (before field) field)

-- the column of a field: its bytes without the blanks at both ends
abbrev pub column_of : List ℕ → List ℕ
column_of field = take (column_length field) (drop (before field) field)

-- the columns of fields, in order: each field between commas, and each between blanks that is not empty
unfoldable pub columns_of : Parting → List Part → List (List ℕ)
columns_of parting [] = []
columns_of parting (field ∷ fields) =
    (if columns_in parting field.body == 0 then [] else column_of field.body ∷ []) ++ columns_of parting fields

-- the columns of a line
abbrev pub line_columns : Parting → List ℕ → List (List ℕ)
line_columns parting line = columns_of parting (parted (ends_field parting) (take (fields_length line) line))

-- ---- what is answered in them

-- what is answered to a column that is the text of a label. A number is none here: a comment has numbers too
unfoldable pub answer_to : Timebase → Way → List ℕ → Option (List ℕ)
answer_to base way column = option_map (answer base way) (label_in (count_of base) column)

-- the column is one of those that are meant
abbrev pub is_meant : Columns → ℕ → Bool
is_meant columns number = nat_le columns.first number && nat_le number columns.last

-- a field with its answer in the place of its column; one that says no label stays as it is
abbrev pub with_answer : List ℕ → Option (List ℕ) → List ℕ
with_answer field None = field
with_answer field (Some answer) =
    take (before field) field ++ answer ++ drop (before field + column_length field) field

abbrev pub answered_field : Timebase → Way → Bool → List ℕ → List ℕ
answered_field base way meant field =
    if meant then with_answer field (answer_to base way (column_of field)) else field

-- fields, of which the first column has this number
unfoldable pub answered_from : Timebase → Way → Columns → ℕ → List Part → List ℕ
answered_from base way columns number [] = []
answered_from base way columns number (field ∷ fields) =
    answered_field base way (is_meant columns number) field.body ++ field.end
    ++ answered_from base way columns (number + columns_in columns.parting field.body) fields

-- a line without its newline
unfoldable pub answered_line : Timebase → Way → Columns → List ℕ → List ℕ
answered_line base way columns line =
    answered_from base way columns 1 (parted (ends_field columns.parting) (take (fields_length line) line))
    ++ drop (fields_length line) line

-- and if it is too long, it stays as it is
abbrev pub answered_or_long : Timebase → Way → Columns → List ℕ → List ℕ
answered_or_long base way columns line =
    if nat_le (length line) MAX_COLUMN_LINE then answered_line base way columns line else line
