use Rattle.direction_reader.specs.Events.{event_list}
use Rattle.interval_commands.specs.LtcRead.{lines}
use Rattle.interval_commands.proofs.LinesGrow.{more_printed}
use Rattle.interval_commands.proofs.ltc_read.ReportBehind.interval.Goals as goal

-- the lines of the events were written, and each of them was counted
pub returns-clause-works : goal.returns-clause-works
returns-clause-works g c =
    let r = c.args.self.now in
    let h = c.feed.ensures.prints in
    λ profile header intervals written stands. (
      lines r.header (event_list h.0),
      h.3,
      more_printed r c.feed.new.self profile header intervals written c.args.x h.0 stands c.feed.ensures.header
          c.feed.ensures.takes h.1 h.2 c.a_reader_gives_the_events_of_its_list.ensures,
    )
