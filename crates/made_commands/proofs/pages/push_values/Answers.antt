use Rattle.made_commands.specs.Pages.{values}
use Rattle.made_commands.proofs.pages.push_values.Goals as goal

-- the rows are those of the table
pub push_lines-requires : goal.push_lines-requires
unfolding values
push_lines-requires c = c.requires

pub returns-clause-items : goal.returns-clause-items
unfolding values
returns-clause-items c = c.push_lines.ensures.items

pub returns-clause-len : goal.returns-clause-len
unfolding values
returns-clause-len c = c.push_lines.ensures.len
