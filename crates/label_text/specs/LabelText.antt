-- A text of lines that say labels: what its bytes say, one after another. This project's own.
use Rattle.std.specs.Prelude.{ℕ, ◌+◌, ◌≤◌, ◌==◌, nat_lt, if◌then◌else◌, List, [], ◌∷◌, ◌++◌, length, Option}
use Rattle.std.specs.Prelude.{Some, None, Result, Ok, Err}
use Rattle.tc_address.specs.Label.{Address}
use Rattle.tc_io.specs.Verdict.{Verdict, good, past_limit, refused}
use Rattle.label_lines.specs.declared.timebase.Timebase.{Timebase}
use Rattle.label_lines.specs.Line.{read_line, wrong_column}
use Rattle.label_lines.specs.Timebase.{count_of}
use Rattle.label_text.specs.declared.fault.LineFault.{LineFault}
use Rattle.label_text.specs.declared.reader.LineRead.{LineRead}
use Rattle.label_text.specs.declared.reader.LineRead.TheVariants.{Nothing, Label, Fault, Limit}
use Rattle.label_text.specs.declared.reader.TheConstants.{MAX_LINE, MAX_LINES}

-- ---- a place in a text

-- in the line with this number, from 1, behind these bytes of it
pub record Place : Type 0 where
  pub base : Timebase
  pub number : ℕ
  pub line : List ℕ

-- a place, by its parts
abbrev pub place_at : Timebase → ℕ → List ℕ → Place
place_at base number line = record { base = base; number = number; line = line }

-- before the first byte
abbrev pub start : Timebase → Place
start base = place_at base 1 []

-- behind the last line that is read nothing may stand, but it may be ended
pub record IsPlace (p : Place) : Type 0 where
  pub number : p.number ≤ MAX_LINES + 1
  pub line : length p.line ≤ MAX_LINE

-- ---- what a byte completes

-- the fault of the line at this column
abbrev pub fault_at : Place → ℕ → LineFault
fault_at p column = record { line = p.number; column = column }

-- its label, or its fault
abbrev pub label_or_fault : Place → Result Address ℕ → LineRead
label_or_fault p (Ok label) = Label label
label_or_fault p (Err column) = Fault (fault_at p column)

-- what the line says, as it stands
abbrev pub line_said : Place → LineRead
line_said p = label_or_fault p (read_line p.base p.line)

-- a newline ends a line, and no line is longer than it may be: no label has as many bytes
abbrev pub said_by : Place → ℕ → LineRead
said_by p byte =
    if nat_lt MAX_LINES p.number then Limit
    else if byte == 10 then line_said p
    else if nat_lt (length p.line) MAX_LINE then Nothing
    else Fault (fault_at p (wrong_column (count_of p.base) p.line))

-- the place behind a byte: the line is a byte longer, or the next one begins; there is none behind a fault or the limit
abbrev pub after : LineRead → ℕ → Place → Place
after Nothing byte p = record p { line = p.line ++ byte ∷ [] }
after (Label label) byte p = record p { number = p.number + 1; line = [] }
after (Fault fault) byte p = p
after Limit byte p = p

-- ---- a text

-- what bytes say: the labels of the lines that were ended, what the bytes show, whatever follows, and the place behind
-- them
pub record Reading : Type 0 where
  pub labels : List Address
  pub verdict : Verdict LineFault
  pub place : Place

-- labels, and what follows them
abbrev pub with_labels : List Address → Reading → Reading
with_labels labels r = record r { labels = labels ++ r.labels }

-- no label more
abbrev pub ended_at : Verdict LineFault → Place → Reading
ended_at verdict p = record { labels = []; verdict = verdict; place = p }

-- what follows a byte: nothing behind a fault or the limit
abbrev pub then_read : Place → LineRead → Reading → Reading
then_read p Nothing more = more
then_read p (Label label) more = with_labels (label ∷ []) more
then_read p (Fault fault) more = ended_at (refused fault) p
then_read p Limit more = ended_at past_limit p

-- what bytes say from a place on
unfoldable pub reading_from : Place → List ℕ → Reading
reading_from p [] = ended_at good p
reading_from p (byte ∷ bytes) = then_read p (said_by p byte) (reading_from (after (said_by p byte) byte p) bytes)

-- what a text says
abbrev pub reading_of : Timebase → List ℕ → Reading
reading_of base bytes = reading_from (start base) bytes

-- ---- its end

-- what the end of a text says of the bytes behind the last newline: nothing, where there is none
abbrev pub at_end : Place → LineRead
at_end p = if length p.line == 0 then Nothing else line_said p

-- the label that a byte completes, if it completes one
abbrev pub label_said : LineRead → List Address
label_said (Label label) = label ∷ []
label_said _ = []

-- the fault that a byte shows, if it shows one
abbrev pub fault_said : LineRead → Option LineFault
fault_said (Fault fault) = Some fault
fault_said _ = None

-- the labels of a whole text
abbrev pub labels_of : Timebase → List ℕ → List Address
labels_of base bytes = (reading_of base bytes).labels ++ label_said (at_end (reading_of base bytes).place)

-- the fault of a text that ends with these bytes
abbrev pub end_fault_of : Timebase → List ℕ → Option LineFault
end_fault_of base bytes = fault_said (at_end (reading_of base bytes).place)
