-- The table of usages beside the commands: it has a row for each, and no other.
use Rattle.std.specs.Prelude.{◌≡◌, Bool, true, false, List, [], Err, Result}
use Rattle.std.specs.List.{list_all, list_any}
use Rattle.std.specs.Str.{bytes_eq}
use Rattle.tc_job.specs.declared.fault.WordsFault.{WordsFault}
use Rattle.tc_job.specs.declared.job.Task.{Task}
use Rattle.tc_job.specs.declared.fault.WordsFault.TheVariants.{Command}
use Rattle.tc_job.specs.declared.usages.TheConstants.{USAGES}
use Rattle.forms.specs.Named.{task_of}
use Rattle.forms.specs.Number.{Word}

-- the answer is another than that the word names no command
abbrev pub is_known : Result Task WordsFault → Bool
is_known (Err Command) = false
is_known _ = true

-- a row begins with the word
abbrev pub has_usage : Word → Bool
has_usage command = list_any (λ usage. bytes_eq command usage.0.now) USAGES

-- each word that names a command begins a row
abbrev pub HaveUsages : Type 0
HaveUsages = (command : Word) (values : List Word) → is_known (task_of command values) ≡ true → has_usage command ≡ true

-- the word of each row names a command
abbrev pub are_commands : Bool
are_commands = list_all (λ usage. is_known (task_of usage.0.now [])) USAGES
