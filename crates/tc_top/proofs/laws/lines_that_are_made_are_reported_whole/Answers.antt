use Rattle.std.proofs.Common.{◌∙◌, ap}
use Rattle.signal_commands.specs.VitcRead.{field_report}
use Rattle.made_commands.specs.MadeLines.{made_lines}
use Rattle.tc_top.proofs.LinesAreInput.{are_input}
use Rattle.tc_top.proofs.laws.lines_that_are_made_are_reported_whole.Goals as goal

pub returns-clause-input : goal.returns-clause-input
returns-clause-input c = λ s is. are_input s (c.lines_that_are_made_are_read_back.ensures s is)

-- the answers of the report are those of the fields
pub returns-clause-report : goal.returns-clause-report
returns-clause-report c = λ s written is output.
    let back = c.lines_that_are_made_are_read_back.ensures s is in
    output.2 ∙ ap field_report
    (c.bytes_have_one_list_of_answers.ensures (made_lines s) output.0 _ output.1 back.answers)
