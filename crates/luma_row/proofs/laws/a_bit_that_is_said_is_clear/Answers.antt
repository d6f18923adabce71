use Rattle.luma_row.proofs.AllClear.{said_is_clear}
use Rattle.luma_row.proofs.laws.a_bit_that_is_said_is_clear.Goals as goal

pub returns : goal.returns
returns c = said_is_clear
