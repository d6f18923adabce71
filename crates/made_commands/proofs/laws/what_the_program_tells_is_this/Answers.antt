use Rattle.std.proofs.Common.{refl}
use Rattle.made_commands.specs.About.{help_text}
use Rattle.made_commands.proofs.laws.what_the_program_tells_is_this.Goals as goal

-- by computing
pub returns-clause-help : goal.returns-clause-help
unfolding help_text
returns-clause-help c = refl
