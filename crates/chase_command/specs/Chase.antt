-- `chase`: a script is read whole, and then the trace of its rows is written. So it is no stream: it takes memory for
-- its input, and what is refused is a row and a column.
use Rattle.std.specs.Prelude.{◌≡◌, ◌⊎◌, ℕ, ◌+◌, ◌≤◌, nat_le, List, [], length, Option, Ok}
use Rattle.std.specs.Prelude.{Err, if◌then◌else◌}
use Rattle.std.specs.Io.KnownBytes.{IsAtEnd}
use Rattle.tc_io.specs.Sink.{IsFront}
use Rattle.tc_address.specs.Label.{Address}
use Rattle.chase_script.specs.declared.fault.RowFault.{RowFault}
use Rattle.chase_script.specs.declared.row.ScriptRow.{ScriptRow}
use Rattle.chase_script.specs.Lock.{KeepsItsLock}
use Rattle.chase_script.specs.Script.{script_in}
use Rattle.chase_script.specs.TraceText.{trace_from, trace_text}
use Rattle.chase_command.specs.declared.chasing.TheConstants.{MAX_SCRIPT}
use Rattle.chase_command.specs.declared.stop.ChaseStop.TheVariants as chase
use Rattle.tc_command.specs.declared.status.Status.{Status}
use Rattle.tc_command.specs.declared.status.Status.TheVariants as status
use Rattle.tc_command.specs.Exchange.{Exchange, WritesAFront}
use Rattle.chase_command.specs.Stop.{note_of}

-- the text of the trace of these rows, of a chase that begins at the label
abbrev pub chase_text : Address → List ScriptRow → List ℕ
chase_text label rows = trace_text label.count (trace_from label rows)

-- the bytes pulled are the whole input, and no longer than a script may be
pub record IsWhole (left : Option (List ℕ)) (pulled : List ℕ) : Type 0 where
  pub end : IsAtEnd left
  pub short : length pulled ≤ MAX_SCRIPT

-- they are a script of these rows
pub record IsScript (label : Address) (left : Option (List ℕ)) (pulled : List ℕ) (rows : List ScriptRow) : Type 0 where
  pub whole : IsWhole left pulled
  pub are : script_in label.count pulled ≡ Ok rows

-- ---- the end of the input

-- how many pulls of a chase were at the end of its input or behind it: no row is judged before the end, and nothing is
-- pulled behind it. Memory may be wanted before it or at it
abbrev pub ChaseEndsSeen : Status → ℕ → Type 0
ChaseEndsSeen status.Done ends = ends ≡ 1
ChaseEndsSeen status.Refused ends = ends ≡ 1
ChaseEndsSeen status.WriteFault ends = ends ≡ 1
ChaseEndsSeen status.Memory ends = ends ≤ 1
ChaseEndsSeen _ ends = ends ≡ 0

-- along a source that was not at its end before
abbrev pub ChaseSeesOneEnd : Status → ℕ → ℕ → Type 0
ChaseSeesOneEnd status before now = before ≡ 0 → ChaseEndsSeen status now

-- nothing was pulled of the source, or the end of its input was seen: where memory is wanted
abbrev pub IsUnreadOrWhole : {S : Type 0} → (S → ℕ) → S → S → Type 0
IsUnreadOrWhole ends before after = (after ≡ before) ⊎ (ends before ≡ 0 → ends after ≡ 1)

-- ---- a whole input

-- the one status of a chase on an input where no call fails, want of memory aside
abbrev pub chase_status_on : Address → List ℕ → Status
chase_status_on label input =
    if nat_le (length input) MAX_SCRIPT
    then elim (script_in label.count input) [ Ok rows ↦ status.Done | Err fault ↦ status.Refused ]
    else status.Limit

-- all that a chase may write of an input: the trace of a script, and nothing of what is none
abbrev pub chase_output : Address → List ℕ → List ℕ
chase_output label input =
    if nat_le (length input) MAX_SCRIPT
    then elim (script_in label.count input) [ Ok rows ↦ chase_text label rows | Err fault ↦ [] ]
    else []

-- ---- the answer of a chase

-- the chase came to the end of its script, and wrote the whole trace, which keeps its lock
pub record IsChaseDone (label : Address) (e : Exchange) : Type 0 where
  pub rows : List ScriptRow
  pub script : IsScript label e.left e.pulled rows
  pub text : e.written ≡ chase_text label rows
  pub lock : KeepsItsLock label rows
  pub note : e.note ≡ []

-- how a chase ended, by its status: with which note, and with what written: nothing, unless a push failed. At most a
-- byte more is pulled than a script may have, and no row is judged before the end of the input. Memory is wanted before
-- the first pull or for the rows
abbrev pub ChaseEndsBy : Address → Status → Exchange → Type 0
ChaseEndsBy label status.Done e = IsChaseDone label e
ChaseEndsBy label status.Refused e = (fault : RowFault) × (e.note ≡ note_of (chase.Refused fault))
    × IsWhole e.left e.pulled × (script_in label.count e.pulled ≡ Err fault) × (e.written ≡ [])
ChaseEndsBy label status.ReadFault e =
    (e.note ≡ note_of chase.ReadFault) × (length e.pulled ≤ MAX_SCRIPT) × (e.written ≡ [])
ChaseEndsBy label status.WriteFault e = (e.note ≡ note_of chase.WriteFault)
    × ((rows : List ScriptRow) × IsScript label e.left e.pulled rows × IsFront e.written (chase_text label rows))
ChaseEndsBy label status.Memory e =
    (e.note ≡ note_of chase.Memory) × ((e.pulled ≡ []) ⊎ IsWhole e.left e.pulled) × (e.written ≡ [])
ChaseEndsBy label status.Limit e =
    (e.note ≡ note_of chase.Limit) × (length e.pulled ≡ MAX_SCRIPT + 1) × (e.written ≡ [])
ChaseEndsBy label status.Usage e = ⊥

-- what a chase answers: it ended by its status, and whatever that is, what was written is a front of the trace where
-- the whole input is a script, and nothing where it is none
pub record IsChaseAnswer (label : Address) (status : Status) (e : Exchange) : Type 0 where
  pub ends : ChaseEndsBy label status e
  pub first : WritesAFront (λ input whole. whole ≡ chase_output label input) e
