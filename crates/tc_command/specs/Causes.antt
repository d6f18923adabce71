-- By whose fault a job ended: a count of faults rose, or is at its last value, if a call on that object failed,
-- and else it is as it was.
use Rattle.std.specs.Prelude.{◌≡◌, ℕ, Result, Ok, Err}
use Rattle.tc_io.specs.Source.{Rose}
use Rattle.tc_command.specs.declared.stop.Stop.{Stop}
use Rattle.tc_command.specs.declared.status.Status.{Status}
use Rattle.tc_command.specs.declared.status.Status.TheVariants.{Done, ReadFault, WriteFault}
use Rattle.tc_command.specs.Status.{status_of}

-- a read fault comes only where the count of the source rose, and each other status leaves it as it was
abbrev pub SourceCause : Status → ℕ → ℕ → Type 0
SourceCause ReadFault before now = Rose before now
SourceCause status before now = now ≡ before

-- a write fault comes only where the count of the output rose, and each other status leaves it as it was
abbrev pub OutCause : Status → ℕ → ℕ → Type 0
OutCause WriteFault before now = Rose before now
OutCause status before now = now ≡ before

-- the status of a job that came to its end, or stopped
abbrev pub ended_with : {T : Type 0} → Result T Stop → Status
ended_with (Ok _) = Done
ended_with (Err stop) = status_of stop

-- the result of a job fits the count of the source's faults
abbrev pub HasSourceCause : {T : Type 0} → ℕ → ℕ → Result T Stop → Type 0
HasSourceCause before now result = SourceCause (ended_with result) before now

-- the result of a job fits the count of the output's faults
abbrev pub HasOutCause : {T : Type 0} → ℕ → ℕ → Result T Stop → Type 0
HasOutCause before now result = OutCause (ended_with result) before now
