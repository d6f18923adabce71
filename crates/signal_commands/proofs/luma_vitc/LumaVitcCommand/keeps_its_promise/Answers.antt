use Rattle.std.proofs.Common.{arith}
use Rattle.signal_commands.proofs.LumaTold.{luma_is_kept}
use Rattle.signal_commands.proofs.luma_vitc.LumaVitcCommand.keeps_its_promise.Goals as goal

pub returns : goal.returns
returns c = luma_is_kept (record {
  few = c.a_field_says_its_lines.ensures.few;
  bits = c.a_field_says_its_lines.ensures.bits;
  line = c.each_line_has_its_runs.ensures.line;
  stand = c.each_line_has_its_runs.ensures.stand;
  fit = c.runs_of_a_line_fit_the_file.ensures;
  read = c.a_file_is_read_as_it_was_written.ensures;
}) c.args.self.now.run c.system-system.ensures.valid (omega (arith, c.size-size.ensures.size, c.size-size.ensures.some))
