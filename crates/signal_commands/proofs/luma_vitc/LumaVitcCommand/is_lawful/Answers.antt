use Rattle.signal_commands.proofs.LumaTold.{luma_is_lawful}
use Rattle.signal_commands.proofs.luma_vitc.LumaVitcCommand.is_lawful.Goals as goal

pub returns : goal.returns
returns c = λ command. luma_is_lawful (record {
  some = c.a_field_says_its_lines.ensures.some;
  one = c.a_field_says_its_lines.ensures.one;
  first = c.joined_parts_are_taken_apart.ensures.first;
}) command.run
