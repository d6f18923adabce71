use Rattle.made_commands.proofs.MadeLinesAreRead.{made_lines_are_read}
use Rattle.made_commands.proofs.laws.lines_that_are_made_are_read_back.Goals as goal

pub returns : goal.returns
returns c = λ s is. made_lines_are_read (record {
  labels = c.steps_lead_to_labels.ensures;
  spelled = c.each_word_has_its_line.ensures.spells;
  odd = c.each_word_has_its_line.ensures.odd;
  line = c.each_line_has_its_runs.ensures.line;
  stand = c.each_line_has_its_runs.ensures.stand;
  fit = c.runs_of_a_line_fit_the_file.ensures;
  file = c.a_file_is_read_as_it_was_written.ensures;
}) s is
