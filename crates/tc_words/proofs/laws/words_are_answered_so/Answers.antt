use Rattle.std.proofs.Common.{rules}
use Rattle.forms.specs.Choice.{choices, said_by}
use Rattle.forms.specs.Form.{form_of, forms}
use Rattle.forms.specs.Made.{task_in}
use Rattle.forms.specs.Named.{task_of}
use Rattle.forms.specs.Number.{between, number_spelled}
use Rattle.forms.specs.Reading.{read_on}
use Rattle.tc_words.proofs.laws.words_are_answered_so.Goals as goal

-- by computing
pub returns : goal.returns
unfolding task_of form_of forms choices said_by read_on between number_spelled task_in
returns c = search rules
