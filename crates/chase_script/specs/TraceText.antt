-- The text of a trace, byte for byte: a line a row, and a last line. The form is this project's own.
use Rattle.std.specs.Prelude.{ℕ, ◌+◌, ◌/◌, ◌%◌, Bool, is_some, List, [], ◌∷◌, ◌++◌, length, map, codes, decimal}
use Rattle.std.specs.Prelude.{slice_get, Option, Some, None}
use Rattle.std.specs.Fmt.{signed_decimal}
use Rattle.std.specs.List.{count_by}
use Rattle.tc_address.specs.declared.count.Count.{Count}
use Rattle.tc_address.specs.Label.{Address, labels}
use Rattle.tc_address.specs.Spelling.{text_of, two_digits}
use Rattle.chase_core.specs.declared.report.State.{State}
use Rattle.chase_core.specs.declared.report.State.TheVariants.{Waiting, Locating, Pulling, Locked}
use Rattle.chase_core.specs.declared.report.Loss.{Loss}
use Rattle.chase_core.specs.declared.report.Loss.TheVariants.{NoCode, Window}
use Rattle.chase_core.specs.Trace.{Row, Traced, starts_at, trace}
use Rattle.chase_script.specs.declared.row.ScriptRow.{ScriptRow}

-- ---- the lines

-- the word for each state
abbrev pub state_name : State → List ℕ
state_name Waiting = codes "waiting"
state_name Locating = codes "locating"
state_name Pulling = codes "pulling"
state_name Locked = codes "locked"

-- the word for a loss, or for none
abbrev pub loss_name : Option Loss → List ℕ
loss_name None = codes "none"
loss_name (Some NoCode) = codes "no-code"
loss_name (Some (Window error)) = codes "window"

-- a position: the label that it lies in, and the subframes behind the label's beginning
abbrev pub position_text : Count → ℕ → List ℕ
position_text count position = elim (slice_get (labels count) (position / 80))
    [ None ↦ [] | Some label ↦ text_of label ]
    ++ codes "+" ++ two_digits (position % 80)

-- the line of a step
abbrev pub step_line : Count → ℕ → Traced → List ℕ
step_line count step line =
    codes "step " ++ decimal step ++ codes " " ++ state_name line.report.state ++ codes " error "
    ++ signed_decimal line.report.error
    ++ codes " order " ++ signed_decimal line.report.order ++ codes " loss " ++ loss_name line.report.loss
    ++ codes " at " ++ position_text count line.position ++ codes "\n"

-- the last line
abbrev pub step_end_line : ℕ → ℕ → List ℕ
step_end_line steps losses = codes "end steps " ++ decimal steps ++ codes " losses " ++ decimal losses ++ codes "\n"

-- ---- all of them

-- the step lost the lock
abbrev pub loses : Traced → Bool
loses line = is_some line.report.loss

-- lines of steps, the first of which has this number
unfoldable pub step_lines : Count → ℕ → List Traced → List ℕ
step_lines count step [] = []
step_lines count step (line ∷ lines) = step_line count step line ++ step_lines count (step + 1) lines

-- the text of a trace
abbrev pub trace_text : Count → List Traced → List ℕ
trace_text count lines = step_lines count 1 lines ++ step_end_line (length lines) (count_by loses lines)

-- ---- the trace of a script

-- the row as the closed loop takes it
abbrev pub row_of : ScriptRow → Row
row_of row = record { command = row.command; master = row.master; slip = row.slip }

-- the trace of rows from a label on
abbrev pub trace_from : Address → List ScriptRow → List Traced
trace_from label rows = trace (starts_at label) (map row_of rows)
