use Rattle.std.proofs.Common.{refl}
use Rattle.std.specs.Fmt.{digits}
use Rattle.forms.specs.Choice.{choices}
use Rattle.forms.specs.Form.{forms}
use Rattle.forms.specs.Help.{range_text, slot_lines, typed_slots, ways, ways_by}
use Rattle.forms.proofs.laws.each_page_lists_what_is_taken.Goals as goal

-- by computing
pub returns-clause-typed : goal.returns-clause-typed
unfolding choices forms range_text typed_slots ways ways_by
returns-clause-typed c = refl

pub returns-clause-listed : goal.returns-clause-listed
unfolding choices digits forms range_text slot_lines ways ways_by
returns-clause-listed c = refl
