use Rattle.std.proofs.Common.{◌∙◌, ap}
use Rattle.direction_reader.specs.Events.{event_list}
use Rattle.interval_commands.specs.declared.ltc_read.Report.{Report}
use Rattle.interval_commands.proofs.CountedEvents.{words-all_counted, refused-all_counted, lost-all_counted}
use Rattle.interval_commands.proofs.CountedEvents.{brought_fits}
use Rattle.interval_commands.proofs.ltc_read.Report.print.Goals as goal

-- the limits of the file keep the numbers of the events small
pub write-requires-clause-lines : goal.write-requires-clause-lines
write-requires-clause-lines g c =
    brought_fits _ _ c.events-events.result c.requires.within c.requires.sum c.events-events.ensures.brings

-- the events of the interval were counted and written
pub returns-clause-prints : goal.returns-clause-prints
returns-clause-prints g c =
    let own = c.events-events.result in
    let events = event_list own in
    let counted = c.write.ensures.counted in (
      own,
      c.events-events.ensures.told c.requires.may,
      record {
        words = ap (λ (r : Report). r.words) counted ∙ words-all_counted events _;
        refused = ap (λ (r : Report). r.refused) counted ∙ refused-all_counted events _;
        lost = ap (λ (r : Report). r.lost) counted ∙ lost-all_counted events _;
      },
      c.write.ensures.lines,
    )
