-- The task that a command and the words behind it name, or their first fault.
use Rattle.std.specs.Prelude.{List, length, Some, None, Result, Ok, Err, if◌then◌else◌}
use Rattle.tc_job.specs.declared.fault.WordsFault.{WordsFault}
use Rattle.tc_job.specs.declared.fault.WordsFault.TheVariants.{Command, CountOfWords, Value}
use Rattle.tc_job.specs.declared.job.Task.{Task}
use Rattle.forms.specs.Form.{Row, form_of, takes}
use Rattle.forms.specs.Made.{task_in}
use Rattle.forms.specs.Number.{Word}
use Rattle.forms.specs.Reading.{read}

-- the words behind a command, by its form: their count is the first fault, and then the first word without a value
abbrev pub task_by : Row → List Word → Result Task WordsFault
task_by form words =
    if takes form.2 (length words)
    then elim (read form.2 words) [ Ok values ↦ Ok (task_in form.3 values) | Err place ↦ Err (Value place) ]
    else Err CountOfWords

-- a command without a form is the fault before these
unfoldable pub task_of : Word → List Word → Result Task WordsFault
task_of command words = elim (form_of command words) [ None ↦ Err Command | Some form ↦ task_by form words ]
