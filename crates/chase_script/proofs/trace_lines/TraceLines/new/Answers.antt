use Rattle.std.proofs.Common.{map}
use Rattle.chase_script.specs.TraceText.{row_of}
use Rattle.chase_core.specs.Trace.{starts_at}
use Rattle.chase_script.proofs.RowsFit.{rows_of_the_day}
use Rattle.chase_script.proofs.trace_lines.TraceLines.new.Goals as goal

-- the laws of the closed loop, of this loop and these rows
pub returns-clause-lock : goal.returns-clause-lock
returns-clause-lock c =
    let label = c.args.label.now in
    let rows = map row_of c.args.rows.items in
    let are = rows_of_the_day label.count c.args.rows.items c.requires in
    let day = rw c.new.ensures.start at c.new.ensures.day in
    record {
      stays = λ first last i leaves line steady at_first locked least most at_line.
          c.a_locked_chase_stays_locked.ensures (starts_at label) rows first last i leaves line day are steady at_first
          locked least most at_line;
      pulls = λ row master first last n i line steady at near least most at_line.
          c.pulling_ends.ensures.locks (starts_at label) rows row master first last n i line day are steady at.is
          at.reads at.pulls near least most at_line;
    }
