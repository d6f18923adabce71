-- What a run that is done wrote is the output of the job that its words name.
use Rattle.std.proofs.Common.{◌≡◌, List, ℕ, subst, sym, ◌∙◌}
use Rattle.biphase.specs.declared.profile.Profile.{Profile}
use Rattle.biphase.specs.declared.profile.Profile.TheVariants.{Normal, Worn, Rough}
use Rattle.interval_commands.specs.LtcRead.{report}
use Rattle.interval_engine.specs.Along.{along_intervals}
use Rattle.tc_command.specs.declared.status.Status.TheVariants.{Done}
use Rattle.tc_command.specs.Meaning.{Meaning}
use Rattle.tc_job.specs.declared.job.Job.{Job}
use Rattle.tc_job.specs.declared.job.Task.{Task}
use Rattle.tc_job.specs.declared.job.Task.TheVariants.{Stream}
use Rattle.tc_top.specs.Answer.{IsTaskAnswer}
use Rattle.tc_top.specs.Commands.{meaning_of}
use Rattle.sound_report.specs.TwoRuns.{report_under, Piped, Ran}

pub ran_output : (words : List (List ℕ)) (job : Job) (pulled written : List ℕ) → Ran words job pulled written
    → Meaning.output (meaning_of job) pulled written
ran_output words job pulled written ran =
    let task = ran.done.0 in
    let same : task ≡ Stream job = let both = sym ran.done.1 ∙ ran.named in cc in
    let answer = subst (λ (t : Task). IsTaskAnswer t Done ran.run) same ran.done.2 in
    rw (← ran.pulled_are, ← ran.written_are) answer.ends.output

-- the output of the first run, and that of the second
pub record Outputs (first second : Job) (input text : List ℕ) : Type 0 where
  pub between : List ℕ
  pub wrote : Meaning.output (meaning_of first) input between
  pub read : Meaning.output (meaning_of second) between text

pub outputs_of : (first second : Job) (input text : List ℕ) → Piped first second input text
    → Outputs first second input text
outputs_of first second input text piped = record {
  between = piped.between;
  wrote = ran_output piped.words first input piped.between piped.wrote;
  read = ran_output piped.words_behind second piped.between text piped.read;
}

-- the output under each tolerance is the report
pub is_report : (profile : Profile) (input text : List ℕ)
    → Meaning.output (meaning_of (report_under profile)) input text
    → Meaning.output (along_intervals (report profile)) input text
is_report Normal input text output = output
is_report Worn input text output = output
is_report Rough input text output = output
