-- What the lines of a trace keep while they are given; no promise speaks of it.
use Rattle.std.specs.Prelude.{ℕ, ◌+◌, Bool, true, false, List, [], ◌∷◌, ◌++◌, length, map}
use Rattle.std.specs.List.{count_by}
use Rattle.chase_core.specs.Trace.{Loop, trace, traced}
use Rattle.chase_script.specs.declared.row.ScriptRow.{ScriptRow}
use Rattle.chase_script.specs.TraceText.{row_of, loses, step_line, step_lines, step_end_line}

-- what is left of a trace: the loop before the rows that are still to be worked, and what was counted before them
pub record TraceLeft : Type 0 where
  pub place : Loop
  pub rows : List ScriptRow
  pub steps : ℕ
  pub losses : ℕ
  pub is_ended : Bool

-- the text of it
abbrev pub text_before_end : Bool → List ℕ → List ℕ
text_before_end true text = []
text_before_end false text = text

-- the bytes of the lines that have not been given yet
abbrev pub text_left : TraceLeft → List ℕ
text_left t = text_before_end t.is_ended
    (step_lines t.place.chase.count (t.steps + 1) (trace t.place (map row_of t.rows))
    ++ step_end_line (t.steps + length t.rows) (t.losses + count_by loses (trace t.place (map row_of t.rows))))

-- the first line of it: that of the next row, or the last one
abbrev pub line_before : TraceLeft → List ScriptRow → List ℕ
line_before t [] = step_end_line t.steps t.losses
line_before t (row ∷ rows) = step_line t.place.chase.count (t.steps + 1) (traced t.place (row_of row))

-- the line that comes next
abbrev pub first_line : TraceLeft → List ℕ
first_line t = line_before t t.rows

-- how many lines it has
abbrev pub last_lines : Bool → ℕ
last_lines true = 0
last_lines false = 1

-- how many lines have not been given yet
abbrev pub lines_left : TraceLeft → ℕ
lines_left t = length t.rows + last_lines t.is_ended
