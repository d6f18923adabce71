use Rattle.luma_field.proofs.BitsOfLines.{all_lines, few_lines}
use Rattle.luma_field.proofs.EachSays.{one_list, some_lines}
use Rattle.luma_field.proofs.laws.a_field_says_its_lines.Goals as goal

pub returns-clause-some : goal.returns-clause-some
returns-clause-some c = some_lines c.a_row_is_sharp_or_not.ensures.sharp c.a_row_says_one_thing.ensures.place

pub returns-clause-one : goal.returns-clause-one
returns-clause-one c = one_list c.a_row_says_one_thing.ensures.code

pub returns-clause-few : goal.returns-clause-few
returns-clause-few c = few_lines

pub returns-clause-bits : goal.returns-clause-bits
returns-clause-bits c = all_lines
