-- A chase answers by why it stopped, and its whole input leaves one status if no call fails, lack of memory aside.
use Rattle.std.proofs.Common.{◌≡◌, ℕ, ◌+◌, ◌≤◌, List, ◌++◌, length, take, Ok, Err}
use Rattle.std.proofs.Common.{arith, append-nil}
use Rattle.std.specs.Prelude.{IfErr, IsErrAnd}
use Rattle.std.specs.declared.result.Result.{Result}
use Rattle.std.proofs.lemmas.List.{length-take}
use Rattle.tc_address.specs.Label.{Address}
use Rattle.chase_command.specs.declared.chasing.TheConstants.{MAX_SCRIPT}
use Rattle.chase_command.specs.declared.stop.ChaseStop.{ChaseStop}
use Rattle.chase_command.specs.declared.stop.ChaseStop.TheVariants.{Refused, ReadFault, WriteFault, Memory, Limit}
use Rattle.chase_command.specs.Chase.{ChaseEndsBy}
use Rattle.chase_command.specs.Stop.{status_of}
use Rattle.chase_command.specs.KeptScript.{IsChaseStop, IsGatherStop, IsPullStop}
use Rattle.tc_command.specs.Exchange.{Exchange}
use Rattle.chase_command.specs.Stop.{note_of}

-- ---- a chase that stopped ended so

pub ends_by : (label : Address) (stop : ChaseStop) (e : Exchange) → IsChaseStop label stop e.left e.pulled e.written
    → e.note ≡ note_of stop → ChaseEndsBy label (status_of stop) e
ends_by label (Refused fault) e stopped same = (fault, same, stopped.0, stopped.1, stopped.2)
ends_by label ReadFault e stopped same = (same, stopped.0, stopped.1)
ends_by label WriteFault e stopped same = (same, stopped)
ends_by label Memory e stopped same = (same, stopped.0, stopped.1)
ends_by label Limit e stopped same = (same, stopped.0, stopped.1)

-- ---- one pull more

pub pull_stop : (stop : ChaseStop) (script bytes : List ℕ) → length script ≤ MAX_SCRIPT → IsPullStop stop bytes
    → IsGatherStop stop (script ++ bytes)
pull_stop (Refused fault) script bytes short is = absurd is
pull_stop ReadFault script bytes short is = rw (is, append-nil script) short
pull_stop WriteFault script bytes short is = absurd is
pull_stop Memory script bytes short is = absurd is
pull_stop Limit script bytes short is = absurd is

-- what an error that is passed on says
pub passed : {T : Type 0} {P Q : ChaseStop → Type 0} (result : Result T ChaseStop) → IsErrAnd result P
    → ((stop : ChaseStop) → P stop → Q stop)
    → IfErr result Q
passed (Ok done) says to = absurd says
passed (Err stop) says to = to stop says

-- the room of a pull is no more than what is left to a byte past the script
pub room_fits : (script buf : List ℕ) (room : ℕ) → length script + room ≤ MAX_SCRIPT + 1
    → length script + length (take room buf) ≤ MAX_SCRIPT + 1
room_fits script buf room fits =
    let less : length (take room buf) ≤ room = omega (arith, length-take room buf) in
    omega (arith, fits, less)
