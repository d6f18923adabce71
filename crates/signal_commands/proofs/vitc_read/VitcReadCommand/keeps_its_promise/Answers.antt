use Rattle.signal_commands.proofs.FieldsTold.{fields_are_kept}
use Rattle.signal_commands.proofs.vitc_read.VitcReadCommand.keeps_its_promise.Goals as goal

pub returns : goal.returns
returns c = fields_are_kept (record {
  says = c.an_answer_says_whose_lines_they_are.ensures.says;
  only = c.an_answer_says_whose_lines_they_are.ensures.only;
  one = c.lines_have_one_answer.ensures;
  read = c.a_file_is_read_as_it_was_written.ensures;
  whole = c.what_is_read_whole_is_a_file.ensures;
})
