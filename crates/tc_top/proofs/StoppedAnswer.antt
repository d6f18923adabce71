-- A job that stopped answers by why it stopped.
use Rattle.std.proofs.Common.{◌≡◌}
use Rattle.tc_job.specs.declared.job.Job.{Job}
use Rattle.tc_command.specs.declared.stop.Stop.{Stop}
use Rattle.tc_command.specs.declared.stop.Stop.TheVariants.{Refused, ReadFault, WriteFault, Limit}
use Rattle.tc_top.specs.Answer.{EndsBy, IsAnswer}
use Rattle.tc_top.specs.Commands.{meaning_of}
use Rattle.tc_command.specs.Command.{IsCommand}
use Rattle.tc_command.specs.Exchange.{Exchange}
use Rattle.tc_command.specs.FirstLemmas.{first_at_stop}
use Rattle.tc_command.specs.Notes.{stop_note}
use Rattle.tc_command.specs.Status.{status_of}
use Rattle.tc_command.specs.Stops.{StopsAlong}

ends_by : (job : Job) (stop : Stop) (e : Exchange) → StopsAlong (meaning_of job) stop e.left e.pulled e.written
    → e.note ≡ stop_note stop → EndsBy job (status_of stop) e
ends_by job (Refused fault) e stopped same = (fault, record { why = stopped; note = same })
ends_by job ReadFault e stopped same = record { why = stopped; note = same }
ends_by job WriteFault e stopped same = record { why = stopped; note = same }
ends_by job Limit e stopped same = record { why = stopped; note = same }

pub answer_of : (job : Job) → IsCommand (meaning_of job) → (stop : Stop) (e : Exchange)
    → StopsAlong (meaning_of job) stop e.left e.pulled e.written → e.note ≡ stop_note stop
    → IsAnswer job (status_of stop) e
answer_of job laws stop e stopped same =
    record { ends = ends_by job stop e stopped same; first = first_at_stop (meaning_of job) laws stop e stopped }
