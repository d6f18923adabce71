use Rattle.luma_truth.proofs.LineOfAField.{has_its_line}
use Rattle.luma_truth.proofs.laws.a_field_has_the_line_of_a_clean_drawing.Goals as goal

pub returns : goal.returns
returns c = has_its_line c.a_row_says_one_thing.ensures.code
