use Rattle.std.proofs.Common.{refl, arith}
use Rattle.direction_reader.specs.Events.{no_events}
use Rattle.interval_commands.proofs.ltc_read.Report.feed.Goals as goal

-- the interval brought nothing
pub returns-in-Nothing-clause-prints : goal.returns-in-Nothing-clause-prints
returns-in-Nothing-clause-prints g c = (
  no_events,
  record { stands = λ intervals events stands. c.in-Nothing.ensures.stands intervals events no_events stands refl },
  record { words = omega arith; refused = omega arith; lost = omega arith },
  g.O.Output.given_none c.args.out.now,
)

-- the events that it brought were printed
pub returns-in_default-clause-prints : goal.returns-in_default-clause-prints
returns-in_default-clause-prints g c =
    let h = c.print.ensures.prints in (
      h.0,
      record {
        stands = λ intervals events stands. rw c.print.ensures.reader
            (c.step.ensures.stands intervals events h.0 stands h.1);
      },
      record { words = h.2.words; refused = h.2.refused; lost = h.2.lost },
      h.3,
    )
