use Rattle.tc_bits.proofs.SideBySide.{sum_holds, only_sum_holds}
use Rattle.tc_bits.proofs.laws.a_row_is_its_sum.Goals as goal

pub returns-clause-holds : goal.returns-clause-holds
returns-clause-holds c = sum_holds

pub returns-clause-only : goal.returns-clause-only
returns-clause-only c = only_sum_holds
