use Rattle.tc_bits.proofs.RowOfATable.{are_exact}
use Rattle.tc_bits.proofs.laws.fields_are_exact.Goals as goal

pub returns : goal.returns
returns c = are_exact
