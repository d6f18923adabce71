use Rattle.std.proofs.Common.{◌≤◌, ◌+◌, ◌*◌, ◌∙◌, List, ℕ, subst, sym, ap, arith}
use Rattle.limits.specs.declared.recording.TheConstants.{MAX_INTERVALS}
use Rattle.direction_reader.specs.Events.{listed}
use Rattle.interval_commands.specs.declared.ltc_read.Report.{Report}
use Rattle.interval_commands.specs.KeptReport.{all_counted}
use Rattle.interval_commands.specs.LtcRead.{lines}
use Rattle.interval_commands.proofs.CountedEvents.{all_counted-append, one_at_most}
use Rattle.interval_commands.proofs.LinesGrow.{lines_of_both}
use Rattle.interval_commands.proofs.ltc_read.Report.write.Goals as goal

pub write_one-requires-2-clause-room : goal.write_one-requires-2-clause-room
write_one-requires-2-clause-room g c =
    subst (λ (r : Report). r.words + r.refused + r.lost ≤ 2 * MAX_INTERVALS + 1) (sym c.write_one.ensures.counted)
    (omega (arith, one_at_most c.args.events.first c.args.self.now, c.requires.room))

-- both events
pub returns-clause-counted : goal.returns-clause-counted
returns-clause-counted g c =
    let events = c.args.events in
    c.write_one-2.ensures.counted
    ∙ ap (λ (r : Report). all_counted (listed events.second) r) c.write_one.ensures.counted
    ∙ sym (all_counted-append (listed events.first) (listed events.second) c.args.self.now)

pub returns-clause-lines : goal.returns-clause-lines
returns-clause-lines g c =
    let events = c.args.events in
    let header = c.args.self.now.header in
    let first = c.write_one.ensures in
    subst (λ (l : List ℕ). g.O.Output.given c.args.out.now c.write_one-2.new.out l) (sym (lines_of_both header events))
    (g.O.Output.given_more _ _ _ (lines header (listed events.first)) (lines header (listed events.second)) first.line
    (rw first.header at c.write_one-2.ensures.line))
