-- The chase over recorded code: each frame of a recording is one step, its label is the master, and the slip is drawn
-- by chance. The rule is this project's own.
use Rattle.std.specs.Prelude.{ℕ, ◌+◌, ◌*◌, ◌/◌, ◌%◌, ◌^◌, ℤ, pos, ◌-ℤ◌, if◌then◌else◌, List, [], ◌∷◌, fold, Option}
use Rattle.std.specs.Prelude.{Some, None}
use Rattle.tc_address.specs.declared.count.Count.{Count}
use Rattle.tc_address.specs.declared.direction.Direction.{Direction}
use Rattle.tc_address.specs.Label.{Address}
use Rattle.tc_address.specs.Numbering.{number_of}
use Rattle.chase_core.specs.declared.command.Command.{Command}
use Rattle.chase_core.specs.declared.command.Command.TheVariants.{Play}
use Rattle.chase_core.specs.declared.command.Master.{Master}
use Rattle.chase_core.specs.Trace.{Loop, Row, Traced, after_row, starts_at, trace, traced}
use Rattle.flywheel.specs.declared.frame.Frame.{Frame}
use Rattle.flywheel.specs.declared.frame.Frame.TheVariants.{Heard, Invented, Gone}
use Rattle.flywheel.specs.Frames.{is_same_count}
use Rattle.generator.specs.Draw.{drawn}

-- the master that a label tells to a chase of a count: its number and direction, and nothing where it has another count
abbrev pub master_at : Count → Address → Direction → Option Master
master_at count label direction =
    if is_same_count label.count count then Some (record { number = number_of label; direction = direction }) else None

-- the master of a frame: none where the time code is gone
abbrev pub master_of : Count → Frame → Option Master
master_of count (Heard label direction joined tick) = master_at count label direction
master_of count (Invented label direction step tick) = master_at count label direction
master_of count (Gone tick) = None

-- the slip that a value makes: from -bound to bound
abbrev pub slip_of : ℕ → ℕ → ℤ
slip_of bound value = pos (value / 2 ^ 33 % (2 * bound + 1)) -ℤ pos bound

-- the row of a frame, where this command comes and this value was drawn
abbrev pub row_of : Count → ℕ → Option Command → ℕ → Frame → Row
row_of count bound command value frame =
    record { command = command; master = master_of count frame; slip = slip_of bound value }

-- the rows of frames, with a draw each: the first has the command, and the others have none
unfoldable pub rows_from : Count → ℕ → ℕ → Option Command → List Frame → List Row
rows_from count bound state command [] = []
rows_from count bound state command (frame ∷ more) =
    row_of count bound command (drawn state) frame ∷ rows_from count bound (drawn state) None more

-- the rows of a recording's frames: the first step plays
abbrev pub rows_of : Count → ℕ → ℕ → List Frame → List Row
rows_of count seed bound frames = rows_from count bound seed (Some Play) frames

-- the trace of a chase that waits at a label before the first frame
abbrev pub code_trace : Address → ℕ → ℕ → List Frame → List Traced
code_trace label seed bound frames = trace (starts_at label) (rows_of label.count seed bound frames)

-- ---- step by step

-- a chase over recorded code: the chase and its transport, the command of the next step, the generator's state, and
-- the bound of the slip
pub record CodeLoop : Type 0 where
  pub loop : Loop
  pub command : Option Command
  pub state : ℕ
  pub bound : ℕ

-- before the first frame
abbrev pub begun_at : Address → ℕ → ℕ → CodeLoop
begun_at label seed bound = record { loop = starts_at label; command = Some Play; state = seed; bound = bound }

-- the row of the next frame
abbrev pub next_row : CodeLoop → Frame → Row
next_row chase frame = row_of chase.loop.chase.count chase.bound chase.command (drawn chase.state) frame

-- the chase after it
abbrev pub after_frame : CodeLoop → Frame → CodeLoop
after_frame chase frame =
    record {
      loop = after_row chase.loop (next_row chase frame);
      command = None;
      state = drawn chase.state;
      bound = chase.bound;
    }

-- and after frames
abbrev pub after_frames : CodeLoop → List Frame → CodeLoop
after_frames chase frames = fold after_frame chase frames

-- the line of the next frame
abbrev pub next_line : CodeLoop → Frame → Traced
next_line chase frame = traced chase.loop (next_row chase frame)

-- the trace of the frames that follow
abbrev pub trace_on : CodeLoop → List Frame → List Traced
trace_on chase frames = trace chase.loop (rows_from chase.loop.chase.count chase.bound chase.state chase.command frames)
