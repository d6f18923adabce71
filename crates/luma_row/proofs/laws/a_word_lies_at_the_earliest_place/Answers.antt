use Rattle.luma_row.proofs.PlacesTried.{back_eight, lies_earliest}
use Rattle.luma_row.proofs.laws.a_word_lies_at_the_earliest_place.Goals as goal

pub returns-clause-earliest : goal.returns-clause-earliest
returns-clause-earliest c = lies_earliest

pub returns-clause-eight : goal.returns-clause-eight
returns-clause-eight c = back_eight
