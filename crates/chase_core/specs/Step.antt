-- The chase step: what a chase answers in one frame, and what it is afterwards. The table is this project's own.
use Rattle.std.specs.Prelude.{ℕ, ◌*◌, ◌<◌, Bool, nat_le, cond, ℤ, pos, neg_ℤ, ◌+ℤ◌, unsigned_abs, Option, Some, None}
use Rattle.std.specs.Int.{int_max, int_min}
use Rattle.tc_address.specs.declared.count.Count.{Count}
use Rattle.tc_address.specs.declared.direction.Direction.{Direction}
use Rattle.tc_address.specs.declared.direction.Direction.TheVariants.{Forward, Backward}
use Rattle.tc_address.specs.Numbering.{day_length}
use Rattle.tc_address.specs.Circle.{shortest_way}
use Rattle.transport_model.specs.Move.{day_of}
use Rattle.chase_core.specs.declared.command.Command.{Command}
use Rattle.chase_core.specs.declared.command.Command.TheVariants.{Play, Wait, Locate}
use Rattle.chase_core.specs.declared.command.Master.{Master}
use Rattle.chase_core.specs.declared.report.State.{State}
use Rattle.chase_core.specs.declared.report.State.TheVariants as states
use Rattle.chase_core.specs.declared.report.Loss.{Loss}
use Rattle.chase_core.specs.declared.report.Loss.TheVariants.{NoCode, Window}
use Rattle.chase_core.specs.declared.report.StepReport.{StepReport}
use Rattle.chase_core.specs.declared.mode.Mode.{Mode}
use Rattle.chase_core.specs.declared.mode.Mode.TheVariants.{Waiting, Locating, Pulling, Locked}
use Rattle.chase_core.specs.declared.outcome.Outcome.{Outcome}

-- a chase of a count: its state, and the number of its target while it locates
pub record ChaseState : Type 0 where
  pub count : Count
  pub mode : Mode

-- the command names a label of the count, if it names one
abbrev pub IsCommandOf : Count → Command → Type 0
IsCommandOf count Play = Unit {0}
IsCommandOf count Wait = Unit {0}
IsCommandOf count (Locate n) = n < day_length count

-- the target is a label of the count, if there is one
abbrev pub IsModeOf : Count → Mode → Type 0
IsModeOf count Waiting = Unit {0}
IsModeOf count (Locating n) = n < day_length count
IsModeOf count Pulling = Unit {0}
IsModeOf count Locked = Unit {0}

-- first the command is applied: what it makes of a state
abbrev pub after_command : Option Command → Mode → Mode
after_command None mode = mode
after_command (Some Play) Waiting = Pulling
after_command (Some Play) (Locating n) = Pulling
after_command (Some Play) Pulling = Pulling
after_command (Some Play) Locked = Locked
after_command (Some Wait) mode = Waiting
after_command (Some (Locate n)) mode = Locating n

-- the error: the shortest way, in subframes, from a position to the first subframe of a label
abbrev pub error_to : Count → ℕ → ℕ → ℤ
error_to count position number = shortest_way (day_of count) position (80 * number)

-- the error is at most half a frame
abbrev pub is_near : ℤ → Bool
is_near error = nat_le (unsigned_abs error) 40

-- the error, held between -most and most
abbrev pub held : ℕ → ℤ → ℤ
held most error = int_max (neg_ℤ (pos most)) (int_min (pos most) error)

-- how far a frame carries a master
abbrev pub motion_of : Direction → ℤ
motion_of Forward = pos 80
motion_of Backward = neg_ℤ (pos 80)

-- what a row of the table says: the new state, error, order and loss
abbrev pub table_row : Mode → ℤ → ℤ → Option Loss → Outcome
table_row mode error order loss = record { mode = mode; error = error; order = order; loss = loss }

-- Locating: at the target it waits, and else it goes on, at most 32 frames at once
abbrev pub located : ℕ → ℤ → Outcome
located n error = cond (is_near error)
    (table_row Waiting error (pos 0) None)
    (table_row (Locating n) error (held 2560 error) None)

-- Pulling with a master: near it the chase locks, and else it pulls, 16 frames at most
abbrev pub pulled : Direction → ℤ → Outcome
pulled direction error = cond (is_near error)
    (table_row Locked error (motion_of direction +ℤ held 24 error) None)
    (table_row Pulling error (motion_of direction +ℤ held 1_280 error) None)

-- Locked with a master: near it the chase stays locked, and else the lock is lost
abbrev pub kept : Direction → ℤ → Outcome
kept direction error = cond (is_near error)
    (table_row Locked error (motion_of direction +ℤ held 24 error) None)
    (table_row Pulling error (motion_of direction +ℤ held 1_280 error) (Some (Window error)))

-- then the frame is worked: what comes of it in each state
abbrev pub outcome_of : Count → Mode → Option Master → ℕ → Outcome
outcome_of count Waiting master position = table_row Waiting (pos 0) (pos 0) None
outcome_of count (Locating n) master position = located n (error_to count position n)
outcome_of count Pulling None position = table_row Pulling (pos 0) (pos 0) None
outcome_of count Pulling (Some master) position = pulled master.direction (error_to count position master.number)
outcome_of count Locked None position = table_row Pulling (pos 0) (pos 0) (Some NoCode)
outcome_of count Locked (Some master) position = kept master.direction (error_to count position master.number)

-- the step: the command, and then the frame
abbrev pub step_of : ChaseState → Option Command → Option Master → ℕ → Outcome
step_of chase command master position = outcome_of chase.count (after_command command chase.mode) master position

-- the state, as it is reported
abbrev pub state_of : Mode → State
state_of Waiting = states.Waiting
state_of (Locating n) = states.Locating
state_of Pulling = states.Pulling
state_of Locked = states.Locked

-- the report of a step
abbrev pub report_of : Outcome → StepReport
report_of outcome =
    record { state = state_of outcome.mode; error = outcome.error; order = outcome.order; loss = outcome.loss }

-- the chase after a step
abbrev pub chase_after : ChaseState → Outcome → ChaseState
chase_after chase outcome = record { count = chase.count; mode = outcome.mode }
