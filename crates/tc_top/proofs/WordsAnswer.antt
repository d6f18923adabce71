-- Words name one task, and if they name none, their first fault is the answer of the run, or lack of memory is.
use Rattle.std.proofs.Common.{◌≡◌, ◌⊎◌, ℕ, List, [], Ok, Err, refl, sym, ◌∙◌, ap, inl, inr}
use Rattle.std.specs.Prelude.{alloc_error}
use Rattle.std.specs.declared.option.Option.{Option}
use Rattle.std.specs.declared.result.Result.{Result}
use Rattle.tc_job.specs.declared.job.Job.{Job}
use Rattle.tc_job.specs.declared.job.Task.{Task}
use Rattle.tc_job.specs.declared.job.Task.TheVariants.{Stream, Chase}
use Rattle.tc_job.specs.declared.fault.WordsFault.{WordsFault}
use Rattle.tc_job.specs.declared.fault.WordsFault.TheVariants as words
use Rattle.tc_words.specs.Words.{answer_to}
use Rattle.tc_command.specs.Notes.{usage_note}
use Rattle.tc_top.specs.Answer.{IsRunAnswer}
use Rattle.tc_command.specs.Status.{status_of_words}

-- what was read is the task of the words, since lack of memory is none
abbrev TaskOf : List (List ℕ) → Task → Type 0
TaskOf all task = let answer : Result Task WordsFault = Ok task in (answer ≡ answer_to all)
    ⊎ (answer ≡ Err (words.Memory alloc_error))

pub named : (all : List (List ℕ)) (task : Task) → TaskOf all task → answer_to all ≡ Ok task
named all task (inl same) = sym same
named all task (inr other) = absurd cc

-- words name one task
abbrev of_answer : Task → Result Task WordsFault → Task
of_answer other (Ok task) = task
of_answer other (Err fault) = other

same_task : (all : List (List ℕ)) (a b : Task) → answer_to all ≡ Ok a → answer_to all ≡ Ok b → a ≡ b
same_task all a b first second = ap (of_answer a) (sym first ∙ second)

abbrev job_of : Job → Task → Job
job_of other (Stream job) = job
job_of other (Chase label) = other

-- and one job
pub same_job : (all : List (List ℕ)) (a b : Job) → answer_to all ≡ Ok (Stream a) → answer_to all ≡ Ok (Stream b) → a ≡ b
same_job all a b first second = ap (job_of a) (same_task all (Stream a) (Stream b) first second)

-- a fault is the first of the words, or lack of memory
abbrev FaultOf : List (List ℕ) → WordsFault → Type 0
FaultOf all fault = let answer : Result Task WordsFault = Err fault in (answer ≡ answer_to all)
    ⊎ (answer ≡ Err (words.Memory alloc_error))

pub fault_answers : (all : List (List ℕ)) (fault : WordsFault) (left : Option (List ℕ)) (note : List ℕ)
    → FaultOf all fault
    → note ≡ usage_note fault
    → IsRunAnswer all (status_of_words fault) (record { pulled = []; left = left; written = []; note = note })
fault_answers all (words.Dash place) left note (inl first) same =
    (words.Dash place, sym first, record { pulled = refl; written = refl; note = same })
fault_answers all (words.Dash place) left note (inr other) same = absurd cc
fault_answers all words.Command left note (inl first) same =
    (words.Command, sym first, record { pulled = refl; written = refl; note = same })
fault_answers all words.Command left note (inr other) same = absurd cc
fault_answers all words.CountOfWords left note (inl first) same =
    (words.CountOfWords, sym first, record { pulled = refl; written = refl; note = same })
fault_answers all words.CountOfWords left note (inr other) same = absurd cc
fault_answers all (words.Value place) left note (inl first) same =
    (words.Value place, sym first, record { pulled = refl; written = refl; note = same })
fault_answers all (words.Value place) left note (inr other) same = absurd cc
fault_answers all (words.Memory error) left note of same = inl (record { pulled = refl; written = refl; note = same })
