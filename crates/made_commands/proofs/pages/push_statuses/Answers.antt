use Rattle.made_commands.specs.Pages.{exit_numbers, statuses_text}
use Rattle.made_commands.proofs.pages.push_statuses.Goals as goal

-- the rows are those of the table
pub push_lines-requires : goal.push_lines-requires
unfolding statuses_text exit_numbers
push_lines-requires c = c.requires

pub returns : goal.returns
unfolding statuses_text exit_numbers
returns c = c.push_lines.ensures.items
