-- How the parts of a chase stop before its trace begins; no promise speaks of it.
use Rattle.std.specs.Prelude.{◌≡◌, ◌⊎◌, ℕ, ◌+◌, ◌≤◌, List, [], length, Option, Result, Ok, Err}
use Rattle.chase_script.specs.Script.{Script}
use Rattle.chase_command.specs.declared.chasing.TheConstants.{MAX_SCRIPT}
use Rattle.chase_command.specs.declared.stop.ChaseStop.{ChaseStop}
use Rattle.chase_command.specs.declared.stop.ChaseStop.TheVariants.{Refused, ReadFault, WriteFault, Memory, Limit}
use Rattle.tc_io.specs.Sink.{IsFront}
use Rattle.tc_address.specs.Label.{Address}
use Rattle.chase_script.specs.declared.row.ScriptRow.{ScriptRow}
use Rattle.chase_script.specs.Script.{script_in}
use Rattle.chase_command.specs.Chase.{IsScript, IsWhole, chase_output, chase_text}
use Rattle.tc_command.specs.declared.status.Status.{Status}
use Rattle.tc_command.specs.declared.status.Status.TheVariants as status
use Rattle.chase_command.specs.Stop.{status_of}

-- the chase came to its end: the whole trace was written
pub record IsTraced (label : Address) (left : Option (List ℕ)) (pulled written : List ℕ) (rows : List ScriptRow) : Type
    0 where
  pub script : IsScript label left pulled rows
  pub text : written ≡ chase_text label rows

-- why a chase stops, and what was written then: nothing, unless a push failed. At most a byte more is pulled than a
-- script may have, and no row is judged before the end of the input. Memory is wanted before the first pull or for the
-- rows
abbrev pub IsChaseStop : Address → ChaseStop → Option (List ℕ) → List ℕ → List ℕ → Type 0
IsChaseStop label (Refused fault) left pulled written =
    IsWhole left pulled × (script_in label.count pulled ≡ Err fault) × (written ≡ [])
IsChaseStop label ReadFault left pulled written = (length pulled ≤ MAX_SCRIPT) × (written ≡ [])
IsChaseStop label WriteFault left pulled written =
    (rows : List ScriptRow) × IsScript label left pulled rows × IsFront written (chase_text label rows)
IsChaseStop label Memory left pulled written = ((pulled ≡ []) ⊎ IsWhole left pulled) × (written ≡ [])
IsChaseStop label Limit left pulled written = (length pulled ≡ MAX_SCRIPT + 1) × (written ≡ [])

-- of a part of it that came to its end, or stopped
abbrev pub chase_ended : {T : Type 0} → Result T ChaseStop → Status
chase_ended (Ok _) = status.Done
chase_ended (Err stop) = status_of stop

-- the one output of a whole input
abbrev pub IsChaseOutput : Address → List ℕ → List ℕ → Type 0
IsChaseOutput label input whole = whole ≡ chase_output label input

-- while the script is pulled: its memory is had before the first pull
abbrev pub IsGatherStop : ChaseStop → List ℕ → Type 0
IsGatherStop (Refused fault) pulled = ⊥
IsGatherStop ReadFault pulled = length pulled ≤ MAX_SCRIPT
IsGatherStop WriteFault pulled = ⊥
IsGatherStop Memory pulled = pulled ≡ []
IsGatherStop Limit pulled = length pulled ≡ MAX_SCRIPT + 1

-- in one pull
abbrev pub IsPullStop : ChaseStop → List ℕ → Type 0
IsPullStop (Refused fault) bytes = ⊥
IsPullStop ReadFault bytes = bytes ≡ []
IsPullStop WriteFault bytes = ⊥
IsPullStop Memory bytes = ⊥
IsPullStop Limit bytes = ⊥

-- while its rows are judged
abbrev pub IsRowStop : Script → ChaseStop → Type 0
IsRowStop script (Refused fault) = script ≡ Err fault
IsRowStop script ReadFault = ⊥
IsRowStop script WriteFault = ⊥
IsRowStop script Memory = Unit {0}
IsRowStop script Limit = ⊥
