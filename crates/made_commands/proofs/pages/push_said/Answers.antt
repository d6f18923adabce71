use Rattle.made_commands.specs.Pages.{said}
use Rattle.made_commands.proofs.pages.push_said.Goals as goal

-- the rows are those of the table
pub push_lines-requires : goal.push_lines-requires
unfolding said
push_lines-requires c = c.requires

pub returns-clause-items : goal.returns-clause-items
unfolding said
returns-clause-items c = c.push_lines.ensures.items

pub returns-clause-len : goal.returns-clause-len
unfolding said
returns-clause-len c = c.push_lines.ensures.len
