use Rattle.made_commands.specs.Pages.{examples}
use Rattle.made_commands.proofs.pages.push_examples.Goals as goal

-- the rows are those of the table
pub push_lines-requires : goal.push_lines-requires
unfolding examples
push_lines-requires c = c.requires

pub returns-clause-items : goal.returns-clause-items
unfolding examples
returns-clause-items c = c.push_lines.ensures.items

pub returns-clause-len : goal.returns-clause-len
unfolding examples
returns-clause-len c = c.push_lines.ensures.len
