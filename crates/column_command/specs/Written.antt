-- What is written of a line: the answers in its columns, or the length between the labels in two of them. This
-- project's own.
use Rattle.std.specs.Prelude.{ℕ, ◌+◌, ◌-◌, ◌^◌, min, false, nat_le, nat_lt, if◌then◌else◌, List, length, slice_get}
use Rattle.std.specs.Prelude.{Option, Some, None, option_and_then}
use Rattle.label_columns.specs.Columns.{answered_line, line_columns}
use Rattle.label_columns.specs.declared.columns.Columns.{Columns}
use Rattle.label_columns.specs.declared.columns.TheConstants.{MAX_COLUMN_LINE}
use Rattle.label_lines.specs.Timebase.{count_of}
use Rattle.label_lines.specs.declared.way.Way.TheVariants.{Length}
use Rattle.tc_address.specs.Label.{Address}
use Rattle.tc_address.specs.Spelling.{label_in}
use Rattle.tc_job.specs.LabelRun.{label_run_of}
use Rattle.tc_job.specs.declared.column_run.ColumnRun.{ColumnRun}

-- the line with its answers
abbrev pub answered_by : ColumnRun → List ℕ → List ℕ
answered_by run line = answered_line run.labels.base run.labels.way run.columns line

-- ---- a length

-- the label in the first of the columns, where that is the text of one
abbrev pub first_label : ColumnRun → List ℕ → Option Address
first_label run line =
    option_and_then (label_in (count_of run.labels.base))
    (slice_get (line_columns run.columns.parting line) (run.columns.first - 1))

-- the last of the columns, or the next one where the first is given alone
abbrev pub second_column : Columns → ℕ
second_column columns =
    if nat_lt columns.first columns.last then columns.last else min (columns.first + 1) (2 ^ 32 - 1)

-- in that column the length from a label is asked
abbrev pub length_from : ColumnRun → Address → ColumnRun
length_from run first = record {
  labels = label_run_of run.labels.base (Length first);
  columns = record {
    parting = run.columns.parting;
    first = second_column run.columns;
    last = second_column run.columns;
  };
  is_length = false;
}

-- so the length from that label takes the place of the second one. Where there is no first label, the line stays
abbrev pub with_length : ColumnRun → Option Address → List ℕ → List ℕ
with_length run None line = line
with_length run (Some first) line = answered_by (length_from run first) line

-- ---- either

unfoldable pub written_line : ColumnRun → List ℕ → List ℕ
written_line run line = if run.is_length then with_length run (first_label run line) line else answered_by run line

-- a line that is too long stays as it is
abbrev pub written_or_long : ColumnRun → List ℕ → List ℕ
written_or_long run line = if nat_le (length line) MAX_COLUMN_LINE then written_line run line else line
