-- What `number` and `label` write, as the word of the other, names the label again.
use Rattle.std.specs.Prelude.{◌≡◌, ℕ, List, [], ◌∷◌, Ok, Some, codes, decimal}
use Rattle.tc_address.specs.Label.{Address}
use Rattle.tc_job.specs.declared.job.Job.TheVariants as jobs
use Rattle.made_commands.specs.Labels.{NamesTheLabel, NumbersTheLabel}
use Rattle.tc_job.specs.declared.job.Task.TheVariants.{Stream}
use Rattle.forms.specs.Choice.{said_by}
use Rattle.forms.specs.Named.{task_of}
use Rattle.forms.specs.Number.{Word}
use Rattle.forms.specs.declared.choices.TheConstants.{COUNT}
use Rattle.forms.specs.declared.value.Said.TheVariants as says

-- `label` with the number that `number` wrote is the job of the label, after a word of its count
abbrev pub IsNamedAgain : Address → List ℕ → List ℕ → Type 0
IsNamedAgain label pulled written = (is : NumbersTheLabel label written) (count : Word)
    → said_by COUNT count ≡ Some (says.Count label.count)
    → task_of (codes "label") (count ∷ decimal is.number ∷ []) ≡ Ok (Stream (jobs.LabelOf label))

-- and `number` with the text that `label` wrote
abbrev pub IsNumberedAgain : Address → List ℕ → List ℕ → Type 0
IsNumberedAgain label pulled written = (is : NamesTheLabel label written) (count : Word)
    → said_by COUNT count ≡ Some (says.Count label.count)
    → task_of (codes "number") (count ∷ is.text ∷ []) ≡ Ok (Stream (jobs.Number label))
