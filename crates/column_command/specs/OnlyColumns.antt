-- What changes in a line: in the columns that are meant the text of a label gives way to what is answered to it, and no
-- other byte does. This project's own.
use Rattle.std.specs.List.{AllByRecursion, flat_map}
use Rattle.std.specs.Prelude.{◌≡◌, ◌≤◌, ℕ, ◌-◌, List, ◌++◌, map, slice_get, Some}
use Rattle.column_command.specs.AnsweredText.{answered_part, answered_text, lines_of}
use Rattle.label_columns.specs.Columns.{answer_to, line_columns}
use Rattle.tc_job.specs.declared.column_run.ColumnRun.{ColumnRun}

-- the bytes before a column, its number, the column, and what is put in its place
pub record Change : Type 0 where
  pub before : List ℕ
  pub number : ℕ
  pub column : List ℕ
  pub put : List ℕ

-- bytes as they were, and as they become
abbrev pub was : List Change → List ℕ
was changes = flat_map (λ (c : Change). c.before ++ c.column) changes

abbrev pub becomes : List Change → List ℕ
becomes changes = flat_map (λ (c : Change). c.before ++ c.put) changes

-- of these columns, of which the first one has a number, it is the one of its number, which is meant; it is the text of
-- a label, and what is put there is answered to it
pub record IsAnswered (run : ColumnRun) (first : ℕ) (all : List (List ℕ)) (c : Change) : Type 0 where
  pub counted : first ≤ c.number
  pub from : run.columns.first ≤ c.number
  pub to : c.number ≤ run.columns.last
  pub is : slice_get all (c.number - first) ≡ Some c.column
  pub answer : answer_to run.labels.base run.labels.way c.column ≡ Some c.put

-- bytes change in such columns alone
pub record OnlyThese (run : ColumnRun) (first : ℕ) (all : List (List ℕ)) (bytes written : List ℕ) : Type 0 where
  pub changes : List Change
  pub rest : List ℕ
  pub bytes_are : bytes ≡ was changes ++ rest
  pub written_are : written ≡ becomes changes ++ rest
  pub each : AllByRecursion (IsAnswered run first all) changes

-- a line does
abbrev pub OnlyColumnsChange : ColumnRun → List ℕ → List ℕ → Type 0
OnlyColumnsChange run line written = OnlyThese run 1 (line_columns run.columns.parting line) line written

-- what is written of a text has the same lines, each answered by itself, with the ending that it had
abbrev pub AreTheLines : ColumnRun → List ℕ → Type 0
AreTheLines run text = lines_of (answered_text run text) ≡ map (answered_part run) (lines_of text)
