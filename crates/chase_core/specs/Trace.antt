-- The closed loop: chase and transport take turns, a row a frame. First the chase steps, and then the transport moves
-- by its order and slips.
use Rattle.std.specs.Prelude.{◌≡◌, ℕ, ◌*◌, ◌<◌, ◌≤◌, ℤ, pos, neg_ℤ, List, [], ◌∷◌, Option, Some, None, zero, suc}
use Rattle.std.specs.Prelude.{IfSome, slice_get, take}
use Rattle.tc_address.specs.declared.count.Count.{Count}
use Rattle.tc_address.specs.declared.direction.Direction.{Direction}
use Rattle.tc_address.specs.declared.direction.Direction.TheVariants.{Forward, Backward}
use Rattle.tc_address.specs.Label.{Address}
use Rattle.tc_address.specs.Numbering.{day_length, number_of}
use Rattle.tc_address.specs.Circle.{moved}
use Rattle.transport_model.specs.Move.{TransportState, day_of, after_move, HonoursBound}
use Rattle.chase_core.specs.declared.command.Command.{Command}
use Rattle.chase_core.specs.declared.command.Master.{Master}
use Rattle.chase_core.specs.declared.report.StepReport.{StepReport}
use Rattle.chase_core.specs.declared.mode.Mode.TheVariants.{Waiting}
use Rattle.chase_core.specs.declared.outcome.Outcome.{Outcome}
use Rattle.chase_core.specs.Step.{ChaseState, step_of, report_of, chase_after}

-- what comes in a frame: a command, what the master reads, and how far the transport slips
pub record Row : Type 0 where
  pub command : Option Command
  pub master : Option Master
  pub slip : ℤ

-- a row, by its parts
abbrev pub row_with : Option Command → Option Master → ℤ → Row
row_with command master slip = record { command = command; master = master; slip = slip }

-- a chase, and the position of its transport in subframes
pub record Loop : Type 0 where
  pub chase : ChaseState
  pub position : ℕ

-- the transport stands on the circle of the day
abbrev pub IsOnTheDay : Loop → Type 0
IsOnTheDay loop = loop.position < day_of loop.chase.count

-- a chase that waits, and a transport at the first subframe of a label
abbrev pub starts_at : Address → Loop
starts_at label = record { chase = record { count = label.count; mode = Waiting }; position = 80 * number_of label }

-- what comes of the chase's step in a row
abbrev pub outcome_in : Loop → Row → Outcome
outcome_in loop row = step_of loop.chase row.command row.master loop.position

-- the transport of a loop
abbrev pub transport_of : Loop → TransportState
transport_of loop = record { count = loop.chase.count; position = loop.position }

-- the loop after a row: the chase after its step, and the transport after the move that the step orders
abbrev pub after_row : Loop → Row → Loop
after_row loop row = let outcome = outcome_in loop row in
    record {
      chase = chase_after loop.chase outcome;
      position = (after_move (transport_of loop) outcome.order row.slip).position;
    }

-- a line of the trace: the report of the step, and the position after the move
pub record Traced : Type 0 where
  pub report : StepReport
  pub position : ℕ

-- the line of a row
abbrev pub traced : Loop → Row → Traced
traced loop row = record { report = report_of (outcome_in loop row); position = (after_row loop row).position }

-- the trace of rows, a line a row
unfoldable pub trace : Loop → List Row → List Traced
trace loop [] = []
trace loop (row ∷ rows) = traced loop row ∷ trace (after_row loop row) rows

-- the loop after rows
unfoldable pub after_rows : Loop → List Row → Loop
after_rows loop [] = loop
after_rows loop (row ∷ rows) = after_rows (after_row loop row) rows

-- one frame in a direction
abbrev pub frame_in : Direction → ℤ
frame_in Forward = pos 1
frame_in Backward = neg_ℤ (pos 1)

-- what a steady master reads one frame later: the label one further in its direction, modulo the day
abbrev pub next_of : Count → Master → Master
next_of count master =
    record { number = moved (day_length count) master.number (frame_in master.direction); direction = master.direction }

-- the row after this one goes on steadily: no command, the master one frame further, and the transport slips within its
-- bound between them
pub record GoesOn (count : Count) (row next : Row) : Type 0 where
  pub no_command : next.command ≡ None
  pub master : Master
  pub reads : row.master ≡ Some master
  pub steady : next.master ≡ Some (next_of count master)
  pub slip : HonoursBound row.slip

-- in a list of rows, each one from a first to a last goes on steadily to the next
abbrev pub IsSteadyFromTo : Count → List Row → ℕ → ℕ → Type 0
IsSteadyFromTo count rows first last =
    (i : ℕ) (row next : Row) → first ≤ i → i < last → slice_get rows i ≡ Some row → slice_get rows (suc i) ≡ Some next
    → GoesOn count row next

-- the row's master reads a label of the count, if it reads one
abbrev pub IsRowOf : Count → Row → Type 0
IsRowOf count row = IfSome row.master (λ master. master.number < day_length count)

-- each row of a list does
abbrev pub AreRowsOf : Count → List Row → Type 0
AreRowsOf count rows = (i : ℕ) (row : Row) → slice_get rows i ≡ Some row → IsRowOf count row

-- the loop in which a row of a list is worked
abbrev pub loop_at : Loop → List Row → ℕ → Loop
loop_at loop rows i = after_rows loop (take i rows)

-- how far a locked transport is from its master, this many rows after the first: the lock takes hold in the first row,
-- the order takes what is left of half a frame in two, and from then on the slip alone is left
abbrev pub lock_bound : ℕ → ℕ
lock_bound zero = 40
lock_bound (suc zero) = 24
lock_bound (suc (suc i)) = 8
