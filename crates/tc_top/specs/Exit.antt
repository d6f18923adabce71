-- The exit number of the program.
use Rattle.std.specs.Prelude.{ℕ, Result, Ok, Err}
use Rattle.tc_command.specs.declared.status.Status.{Status}
use Rattle.tc_command.specs.declared.status.Status.TheVariants as statuses
use Rattle.tc_command.specs.Status.{code_of}
use Rattle.tc_top.specs.declared.exit.NoArguments.{NoArguments}
use Rattle.tc_top.specs.declared.exit.NoArguments.TheVariants.{Memory, Other}
use Rattle.tc_top.specs.declared.exit.TheConstants.{NO_ARGUMENTS}

-- the number of the status; without arguments that of lack of memory, or the program's own
abbrev pub exit_number : Result Status NoArguments → ℕ
exit_number (Ok status) = code_of status
exit_number (Err Memory) = code_of statuses.Memory
exit_number (Err Other) = NO_ARGUMENTS
