-- The task of a list of words, or their first fault.
use Rattle.std.specs.Prelude.{◌≡◌, ◌⊎◌, IsSome, List, [], ◌∷◌, Some, None, Result, Err, position}
use Rattle.command_words.specs.CommandLine.{begins_with_dash}
use Rattle.forms.specs.Named.{task_of}
use Rattle.forms.specs.Number.{Word}
use Rattle.tc_job.specs.declared.fault.WordsFault.{WordsFault}
use Rattle.tc_job.specs.declared.fault.WordsFault.TheVariants.{Dash, Command}
use Rattle.tc_job.specs.declared.job.Task.{Task}

-- words of which none begins with a dash: the first is the command
abbrev pub without_dashes : List Word → Result Task WordsFault
without_dashes [] = Err Command
without_dashes (command ∷ values) = task_of command values

-- a dash in any word is the first fault, then the command, then the count of words, then the values
abbrev pub answer_to : List Word → Result Task WordsFault
answer_to words = elim (position begins_with_dash words) [ Some place ↦ Err (Dash place) | None ↦ without_dashes words ]

-- words that are refused without any memory: none, or some of which one begins with a dash
abbrev pub IsRefusedAtOnce : List Word → Type 0
IsRefusedAtOnce words = (words ≡ []) ⊎ IsSome (position begins_with_dash words)
