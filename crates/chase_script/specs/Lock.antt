-- What a builder of synchronisers may rely on, of the trace of a script: a locked chase stays locked, and pulling
-- ends. A subframe is the eightieth of a frame, so half a frame is 40 subframes.
use Rattle.std.specs.Prelude.{◌≡◌, ℕ, ◌+◌, ◌-◌, ◌*◌, ◌≤◌, List, map, slice_get, Some, None, unsigned_abs}
use Rattle.tc_address.specs.Label.{Address}
use Rattle.chase_core.specs.declared.command.Master.{Master}
use Rattle.chase_core.specs.declared.mode.Mode.TheVariants as modes
use Rattle.chase_core.specs.declared.report.State.TheVariants as states
use Rattle.chase_core.specs.Step.{after_command, error_to}
use Rattle.chase_core.specs.Trace.{Row, Traced, IsSteadyFromTo, loop_at, lock_bound, starts_at}
use Rattle.chase_script.specs.declared.row.ScriptRow.{ScriptRow}
use Rattle.chase_script.specs.TraceText.{row_of, trace_from}

-- from a first row to a last the master moves steadily in one direction, modulo the day, no command comes, and the
-- transport slips within its bound
abbrev pub IsSteady : Address → List ScriptRow → ℕ → ℕ → Type 0
IsSteady label rows first last = IsSteadyFromTo label.count (map row_of rows) first last

-- the row is worked Pulling, and reads this master
pub record IsPulledAt (label : Address) (rows : List ScriptRow) (i : ℕ) (row : Row) (master : Master) : Type 0 where
  pub is : slice_get (map row_of rows) i ≡ Some row
  pub reads : row.master ≡ Some master
  pub pulls : after_command row.command (loop_at (starts_at label) (map row_of rows) i).chase.mode ≡ modes.Pulling

-- the error with which it is worked
abbrev pub error_at : Address → List ScriptRow → ℕ → Master → ℕ
error_at label rows i master =
    unsigned_abs (error_to label.count (loop_at (starts_at label) (map row_of rows) i).position master.number)

-- the trace of a script from a label keeps its lock
pub record KeepsItsLock (label : Address) (rows : List ScriptRow) : Type 0 where
  -- where a row of a steady run leaves the chase Locked, each row of the run does that follows, without a loss, and its
  -- error is at most 40 subframes in the first of them, 24 in the next, and 8 in each later one
  pub stays : (first last i : ℕ) (leaves line : Traced) → IsSteady label rows first last
      → slice_get (trace_from label rows) first ≡ Some leaves → leaves.report.state ≡ states.Locked
      → first ≤ i → i ≤ last → slice_get (trace_from label rows) i ≡ Some line
      → (line.report.state ≡ states.Locked) × (line.report.loss ≡ None)
      × (unsigned_abs line.report.error ≤ lock_bound (i - first))
  -- from an error of at most 40 + 1272·n subframes a chase that pulls is Locked n rows later, and loses nothing
  pub pulls : (row : Row) (master : Master) (first last n i : ℕ) (line : Traced) → IsSteady label rows first last
      → IsPulledAt label rows first row master → error_at label rows first master ≤ 40 + 1_272 * n
      → first ≤ i → i ≤ last → slice_get (trace_from label rows) i ≡ Some line
      → (line.report.loss ≡ None) × (n ≤ i - first → line.report.state ≡ states.Locked)
