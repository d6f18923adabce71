use Rattle.std.proofs.Common.{[], refl}
use Rattle.std.proofs.KnownBytes.{Appends-nil}
use Rattle.tc_command.specs.Exchange.{Exchange}
use Rattle.tc_command.specs.FirstLemmas.{first_at_end}
use Rattle.tc_command.specs.StatusLemmas.{done_is_final, stop_is_final}
use Rattle.tc_top.specs.Commands.{meaning_of}
use Rattle.tc_top.proofs.StoppedAnswer.{answer_of}
use Rattle.tc_top.proofs.streaming.stream.Goals as goal

-- the job is done
pub returns-in-Ok-clause-answer : goal.returns-in-Ok-clause-answer
returns-in-Ok-clause-answer g c =
    let e = c.in-Ok.ensures.worked.ends in
    let went : Exchange = record { pulled = e.0; left = g.S.Source.left c.work_on.new.source; written = e.1; note = [] }
    in (
      went,
      record { bytes = e.2; left = refl },
      e.3,
      record { front = ([], ([], refl), Appends-nil _); all = λ _. Appends-nil _ },
      record {
        ends = record {
          end = e.5;
          input = e.6;
          output = e.7;
          promise = record {
            own = c.in-Ok.ensures.told.kept e.0 e.1 e.4 e.6 e.7;
            read_on = c.it_is_read_on.ensures e.0 e.1 e.4 e.6 e.7;
          };
          note = refl;
        };
        first = first_at_end (meaning_of c.args.job.now) c.in-Ok.ensures.told.lawful.command went e.5 e.7;
      },
    )

-- the job stopped
pub returns-in-Err-clause-answer : goal.returns-in-Err-clause-answer
returns-in-Err-clause-answer g c =
    let e = c.in-Err.ensures.worked.stops in
    let went : Exchange = record {
      pulled = e.0;
      left = g.S.Source.left c.work_on.new.source;
      written = e.1;
      note =
          c.stop_note.result.items;
    } in (
      went,
      record { bytes = e.2; left = refl },
      e.3,
      record { front = c.push_note.ensures.front; all = c.push_note.ensures.all },
      rw c.of_stop.ensures
          (answer_of c.args.job.now c.in-Err.ensures.told.lawful.command c.in-Err.stop went e.4 c.stop_note.ensures),
    )

-- the end of an input is the end of the whole input
pub returns-in-Ok-clause-status : goal.returns-in-Ok-clause-status
returns-in-Ok-clause-status g c = λ input told no_read no_write.
    let e = c.in-Ok.ensures.worked.ends in
    done_is_final (meaning_of c.args.job.now) c.in-Ok.ensures.told.lawful.command _ input e.0 (rw told at e.2) e.5 e.6

-- a stop among some bytes is that of the whole input
pub returns-in-Err-clause-status : goal.returns-in-Err-clause-status
returns-in-Err-clause-status g c = λ input told no_read no_write.
    let e = c.in-Err.ensures.worked.stops in
    rw c.of_stop.ensures
    (stop_is_final (meaning_of c.args.job.now) c.in-Err.ensures.told.lawful.command c.in-Err.stop _ input e.0 e.1
    _ _ _ _ (rw told at e.2) e.4 c.in-Err.ensures.worked.source c.in-Err.ensures.worked.out no_read no_write)
