use Rattle.made_commands.specs.Pages.{page_text}
use Rattle.made_commands.proofs.pages.push_page_text.Goals as goal

-- the rows are those of the table
pub push_row_page-requires : goal.push_row_page-requires
unfolding page_text
push_row_page-requires c = c.requires

pub returns : goal.returns
unfolding page_text
returns c = c.push_row_page.ensures
