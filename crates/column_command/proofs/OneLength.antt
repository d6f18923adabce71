-- What changes in a line where a length is asked, and where none is.
use Rattle.std.proofs.Common.{◌≡◌, ℕ, Bool, true, false, cond, nat_le, List, length, refl, Some, None}
use Rattle.column_command.proofs.OnlyColumns.{line_changes, nothing_changes}
use Rattle.column_command.specs.OnlyColumns.{OnlyColumnsChange}
use Rattle.column_command.specs.Written.{answered_by, first_label, length_from, with_length, written_line}
use Rattle.column_command.specs.Written.{written_or_long}
use Rattle.label_columns.specs.Columns.{line_columns}
use Rattle.label_columns.specs.Parts.{joined, parted}
use Rattle.label_columns.specs.declared.columns.TheConstants.{MAX_COLUMN_LINE}
use Rattle.tc_address.specs.Label.{Address}
use Rattle.tc_job.specs.declared.column_run.ColumnRun.{ColumnRun}

-- parts are the bytes
abbrev PartsAreBytes : Type 0
PartsAreBytes = (ends : ℕ → Bool) (bytes : List ℕ) → joined (parted ends bytes) ≡ bytes

-- a line in which these columns change, or which is too long
changed_or_long : (run : ColumnRun) (line written : List ℕ) → OnlyColumnsChange run line written → (short : Bool)
    → OnlyColumnsChange run line (cond short written line)
changed_or_long run line written changes true = changes
changed_or_long run line written changes false =
    nothing_changes run 1 (line_columns run.columns.parting line) line

answers_written : (run : ColumnRun) (line : List ℕ) → run.is_length ≡ false
    → written_line run line ≡ answered_by run line
unfolding written_line
answers_written run line none = rw none refl

length_written : (run : ColumnRun) (line : List ℕ) → run.is_length ≡ true
    → written_line run line ≡ with_length run (first_label run line) line
unfolding written_line
length_written run line asked = rw asked refl

pub changed_line : (run : ColumnRun) → PartsAreBytes → (line : List ℕ) → run.is_length ≡ false
    → OnlyColumnsChange run line (written_or_long run line)
changed_line run whole line none =
    rw (answers_written run line none) (changed_or_long run line (answered_by run line) (line_changes run whole line)
    (nat_le (length line) MAX_COLUMN_LINE))

pub length_line : (run : ColumnRun) → PartsAreBytes → (line : List ℕ) (first : Address) → run.is_length ≡ true
    → first_label run line ≡ Some first → OnlyColumnsChange (length_from run first) line (written_or_long run line)
length_line run whole line first asked is =
    let its = length_from run first in
    rw (length_written run line asked, is) (changed_or_long its line (answered_by its line)
    (line_changes its whole line) (nat_le (length line) MAX_COLUMN_LINE))

pub kept_line : (run : ColumnRun) (line : List ℕ) → run.is_length ≡ true → first_label run line ≡ None
    → written_or_long run line ≡ line
kept_line run line asked none =
    rw (length_written run line asked, none) (by_length (nat_le (length line) MAX_COLUMN_LINE))
  where
    by_length : (short : Bool) → cond short line line ≡ line
    by_length true = refl
    by_length false = refl
