use Rattle.std.proofs.Common.{◌∙◌}
use Rattle.made_commands.proofs.ltc_load.LtcLoadCommand.work.Goals as goal

-- a search does not see it: the line unfolds too far
pub returns : goal.returns
returns g c = c.write.ensures _ (c.deref.ensures.0 ∙ c.load_text.ensures)
