use Rattle.chase_core.proofs.FromRowToRow.{line_of_row, length-trace}
use Rattle.chase_core.proofs.laws.a_trace_has_a_line_for_each_row.Goals as goal

pub returns-clause-lines : goal.returns-clause-lines
returns-clause-lines c = length-trace

pub returns-clause-line : goal.returns-clause-line
returns-clause-line c = line_of_row
