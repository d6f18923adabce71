use Rattle.std.proofs.Common.{[], refl}
use Rattle.std.proofs.KnownBytes.{Appends-nil}
use Rattle.tc_command.specs.Exchange.{Exchange}
use Rattle.chase_command.proofs.ChaseFirst.{answer_of, trace_first}
use Rattle.chase_command.proofs.chasing.chase.Goals as goal

-- the whole trace was written
pub returns-in-Ok-clause-answer : goal.returns-in-Ok-clause-answer
returns-in-Ok-clause-answer g c =
    let e = c.in-Ok.ensures.ends in
    let went : Exchange = record {
      pulled = e.0;
      left = g.S.Source.left c.trace_script.new.source;
      written = e.1;
      note =
          [];
    } in (
      went,
      record { bytes = e.3; left = refl },
      e.4,
      record { front = ([], ([], refl), Appends-nil _); all = λ _. Appends-nil _ },
      record {
        ends = record { rows = e.2; script = e.5.script; text = e.5.text; lock = e.6; note = refl };
        first = trace_first c.args.label.now went e.2 e.5;
      },
    )

-- the chase stopped
pub returns-in-Err-clause-answer : goal.returns-in-Err-clause-answer
returns-in-Err-clause-answer g c =
    let e = c.in-Err.ensures.stops in
    let went : Exchange = record {
      pulled = e.0;
      left = g.S.Source.left c.trace_script.new.source;
      written = e.1;
      note =
          c.note.result.items;
    } in (
      went,
      record { bytes = e.2; left = refl },
      e.3,
      record { front = c.push_note.ensures.front; all = c.push_note.ensures.all },
      rw c.status.ensures (answer_of c.args.label.now c.in-Err.stop went e.4 c.note.ensures),
    )
