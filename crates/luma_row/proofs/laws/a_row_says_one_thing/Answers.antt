use Rattle.luma_row.proofs.OneCode.{one_code}
use Rattle.luma_row.proofs.OnePlace.{one_place}
use Rattle.luma_row.proofs.laws.a_row_says_one_thing.Goals as goal

pub returns-clause-place : goal.returns-clause-place
returns-clause-place c = one_place

pub returns-clause-code : goal.returns-clause-code
returns-clause-code c = one_code
