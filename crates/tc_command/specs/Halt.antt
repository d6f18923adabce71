-- Why an engine takes no more of its input, and what it has written then.
use Rattle.std.specs.Prelude.{ℕ, ◌⊎◌, List}
use Rattle.tc_io.specs.Verdict.{refused, past_limit}
use Rattle.tc_command.specs.declared.halt.Halt.{Halt}
use Rattle.tc_command.specs.declared.halt.Halt.TheVariants.{Refused, Limit}
use Rattle.tc_command.specs.declared.stop.Stop.{Stop}
use Rattle.tc_command.specs.declared.stop.Stop.TheVariants as stops
use Rattle.tc_command.specs.Meaning.{Meaning, Shows}
use Rattle.tc_command.specs.Stops.{IsSpentStop}

-- the stop of a job whose engine halts so
abbrev pub stop_of : Halt → Stop
stop_of (Refused fault) = stops.Refused fault
stop_of Limit = stops.Limit

-- the engine halts for this cause at some of these bytes, and wrote this: the part of the bytes, and at a limit of the
-- command's own the part of a front that passes it
abbrev pub IsHalt : Meaning → Halt → List ℕ → List ℕ → Type 0
IsHalt m (Refused fault) pulled written = Shows m (refused fault) pulled × m.part pulled written
IsHalt m Limit pulled written = (Shows m past_limit pulled × m.part pulled written) ⊎ IsSpentStop m pulled written
