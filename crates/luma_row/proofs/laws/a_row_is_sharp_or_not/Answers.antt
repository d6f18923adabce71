use Rattle.luma_row.proofs.SharpOrNot.{next_within, sharp_or_not}
use Rattle.luma_row.proofs.laws.a_row_is_sharp_or_not.Goals as goal

pub returns-clause-sharp : goal.returns-clause-sharp
returns-clause-sharp c = sharp_or_not

pub returns-clause-next : goal.returns-clause-next
returns-clause-next c = next_within
