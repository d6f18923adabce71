use Rattle.std.proofs.Common.{arith}
use Rattle.std.proofs.lemmas.List.{drop_all}
use Rattle.chase_script.proofs.TraceGoesOn.{end_of}
use Rattle.chase_script.proofs.trace_lines.TraceLines.next_line.Goals as goal

-- no row is left, and the last line is
pub returns-clause-line : goal.returns-clause-line
returns-clause-line c =
    let s = c.self.inside in
    let none = drop_all s.at s.rows.items (omega (arith, c.if-self-len.false, c.len.ensures)) in
    rw (← c.self.view_is) (end_of s.place _ s.at s.losses c.step_end_text.result.items s.is_ended c.if-self.false none
    c.step_end_text.ensures)
