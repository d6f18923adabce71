-- The answer of a run: what was pulled and written, and the note, by status.
use Rattle.std.specs.Prelude.{◌≡◌, ◌⊎◌, ℕ, List, [], codes, Ok, Err}
use Rattle.tc_command.specs.declared.input_fault.InputFault.{InputFault}
use Rattle.tc_job.specs.declared.job.Job.{Job}
use Rattle.tc_job.specs.declared.job.Task.{Task}
use Rattle.tc_job.specs.declared.job.Task.TheVariants.{Stream, Chase}
use Rattle.tc_job.specs.declared.fault.WordsFault.{WordsFault}
use Rattle.tc_words.specs.Words.{answer_to}
use Rattle.tc_command.specs.declared.stop.Stop.{Stop}
use Rattle.tc_command.specs.declared.stop.Stop.TheVariants as stops
use Rattle.tc_command.specs.declared.status.Status.{Status}
use Rattle.tc_command.specs.declared.status.Status.TheVariants.{Done, Usage, Refused, ReadFault, WriteFault, Memory}
use Rattle.tc_command.specs.declared.status.Status.TheVariants.{Limit}
use Rattle.chase_command.specs.Chase.{IsChaseAnswer}
use Rattle.tc_top.specs.Commands.{meaning_of}
use Rattle.tc_command.specs.Exchange.{Exchange, WritesAFront}
use Rattle.tc_command.specs.Meaning.{Meaning, IsInput, IsEnd, IsOutput}
use Rattle.tc_command.specs.Notes.{stop_note, usage_note}
use Rattle.tc_top.specs.Promises.{Promise}
use Rattle.tc_command.specs.Stops.{StopsAlong}

-- the job stopped for this cause, and the note names it
pub record StoppedBy (stop : Stop) (m : Meaning) (e : Exchange) : Type 0 where
  pub why : StopsAlong m stop e.left e.pulled e.written
  pub note : e.note ≡ stop_note stop

-- the job came to the end of an input, wrote all of its output, and keeps its promise
pub record IsDone (job : Job) (e : Exchange) : Type 0 where
  pub end : IsEnd (meaning_of job) e.left
  pub input : IsInput (meaning_of job) e.pulled
  pub output : Meaning.output (meaning_of job) e.pulled e.written
  pub promise : Promise job e.pulled e.written
  pub note : e.note ≡ []

-- how a job ended, by its status
abbrev pub EndsBy : Job → Status → Exchange → Type 0
EndsBy job Done e = IsDone job e
EndsBy job Refused e = (fault : InputFault) × StoppedBy (stops.Refused fault) (meaning_of job) e
EndsBy job ReadFault e = StoppedBy stops.ReadFault (meaning_of job) e
EndsBy job WriteFault e = StoppedBy stops.WriteFault (meaning_of job) e
EndsBy job Limit e = StoppedBy stops.Limit (meaning_of job) e
EndsBy job status e = ⊥

-- what a job answers: it ended by its status, and whatever that is, what was written is a front of the output of the
-- whole input
pub record IsAnswer (job : Job) (status : Status) (e : Exchange) : Type 0 where
  pub ends : EndsBy job status e
  pub first : WritesAFront (IsOutput (meaning_of job)) e

-- what a task answers
abbrev pub IsTaskAnswer : Task → Status → Exchange → Type 0
IsTaskAnswer (Stream job) status e = IsAnswer job status e
IsTaskAnswer (Chase label) status e = IsChaseAnswer label status e

-- nothing was pulled or written, and the note says why
pub record BeginsNothing (why : List ℕ) (e : Exchange) : Type 0 where
  pub pulled : e.pulled ≡ []
  pub written : e.written ≡ []
  pub note : e.note ≡ why

-- the words name a task, and this is its answer
abbrev pub IsNamedAnswer : List (List ℕ) → Status → Exchange → Type 0
IsNamedAnswer words status e = (task : Task) × (answer_to words ≡ Ok task) × IsTaskAnswer task status e

-- what the program answers to words: their first fault, lack of memory for them, or the answer of their task
abbrev pub IsRunAnswer : List (List ℕ) → Status → Exchange → Type 0
IsRunAnswer words Usage e = (fault : WordsFault) × (answer_to words ≡ Err fault) × BeginsNothing (usage_note fault) e
IsRunAnswer words Memory e = BeginsNothing (codes "tc: out of memory\n") e ⊎ IsNamedAnswer words Memory e
IsRunAnswer words status e = IsNamedAnswer words status e
