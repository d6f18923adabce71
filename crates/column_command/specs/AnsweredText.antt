-- `labels` with columns: what is written of a text, line by line. This project's own.
use Rattle.std.specs.Prelude.{◌≡◌, ℕ, true, ◌&&◌, ◌==◌, nat_le, nat_lt, cond, if◌then◌else◌, List, []}
use Rattle.std.specs.Prelude.{◌++◌, length, take, None}
use Rattle.std.specs.List.{flat_map}
use Rattle.column_command.specs.Written.{written_or_long}
use Rattle.label_columns.specs.Columns.{is_newline}
use Rattle.label_columns.specs.Parts.{Part, part_of, parted}
use Rattle.label_columns.specs.declared.columns.TheConstants.{MAX_COLUMN_LINE}
use Rattle.column_command.specs.declared.columns.TheConstants.{MAX_TEXT}
use Rattle.tc_command.specs.declared.input_fault.InputFault.{InputFault}
use Rattle.tc_command.specs.Meaning.{Meaning}
use Rattle.tc_command.specs.Told.{Told, told_by_meaning}
use Rattle.tc_io.specs.Verdict.{Verdict, good, past_limit}
use Rattle.tc_job.specs.declared.column_run.ColumnRun.{ColumnRun}

-- the lines of a text
abbrev pub lines_of : List ℕ → List Part
lines_of text = parted is_newline text

-- a line with its answers
abbrev pub answered_part : ColumnRun → Part → Part
answered_part run line = part_of (written_or_long run line.body) line.end

-- and its newline
abbrev pub answered : ColumnRun → Part → List ℕ
answered run line = written_or_long run line.body ++ line.end

-- a text, line by line
abbrev pub answered_text : ColumnRun → List ℕ → List ℕ
answered_text run text = flat_map (answered run) (lines_of text)

-- what is written of a line while more may follow: a line that is not ended waits, unless it is too long
abbrev pub answered_so_far : ColumnRun → Part → List ℕ
answered_so_far run line =
    if (length line.end == 0) && nat_le (length line.body) MAX_COLUMN_LINE then [] else answered run line

abbrev pub text_so_far : ColumnRun → List ℕ → List ℕ
text_so_far run text = flat_map (answered_so_far run) (lines_of text)

-- at most this many bytes are read
abbrev pub verdict_within : ℕ → List ℕ → Verdict InputFault
verdict_within most bytes = cond (nat_lt most (length bytes)) past_limit good

-- what it takes and what it writes
abbrev pub along_columns : ColumnRun → Meaning
along_columns run = record {
  reads = true;
  verdict = verdict_within MAX_TEXT;
  end_fault = λ bytes. None;
  spent = λ bytes. ⊥;
  part = λ bytes written. written ≡ text_so_far run (take MAX_TEXT bytes);
  output = λ bytes written. written ≡ answered_text run bytes;
}

-- what is told of it
abbrev pub told_columns : ColumnRun → Told
told_columns run = told_by_meaning (along_columns run)
