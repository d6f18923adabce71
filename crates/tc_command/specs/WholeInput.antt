-- The status that a whole input leaves.
use Rattle.std.specs.Prelude.{◌≡◌, ◌⊎◌, ℕ, List, Option, None}
use Rattle.tc_command.specs.declared.input_fault.InputFault.{InputFault}
use Rattle.tc_io.specs.Verdict.{Verdict, good, past_limit}
use Rattle.tc_command.specs.declared.status.Status.{Status}
use Rattle.tc_command.specs.declared.status.Status.TheVariants.{Done, Refused, Limit}
use Rattle.tc_command.specs.Meaning.{Meaning}

-- the status by what the bytes show, and where this is good by their end: done, or refused for the fault of an input
-- that ends there
abbrev pub status_by : Verdict InputFault → Option InputFault → Status
status_by good None = Done
status_by past_limit end = Limit
status_by _ _ = Refused

-- the one status of a job on an input where no call fails: a limit of the command's own that is passed comes first
abbrev pub HasStatus : Meaning → List ℕ → Status → Type 0
HasStatus m input status =
    (m.spent input × (status ≡ Limit))
    ⊎ ((¬ m.spent input) × (status ≡ status_by (m.verdict input) (m.end_fault input)))
