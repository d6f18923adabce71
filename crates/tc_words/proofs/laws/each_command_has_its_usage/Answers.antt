use Rattle.std.proofs.Common.{rules}
use Rattle.forms.specs.Form.{form_of, forms}
use Rattle.forms.specs.Named.{task_of}
use Rattle.forms.specs.Choice.{choices, said_by}
use Rattle.forms.specs.Made.{task_in}
use Rattle.forms.specs.Reading.{read_on}
use Rattle.tc_words.proofs.AllUsed.{each_is_used}
use Rattle.tc_words.proofs.laws.each_command_has_its_usage.Goals as goal

pub returns-clause-each : goal.returns-clause-each
returns-clause-each c = each_is_used

-- without values each command answers that it wants some, or its task
pub returns-clause-only : goal.returns-clause-only
unfolding task_of form_of forms choices said_by read_on task_in
returns-clause-only c = search rules
