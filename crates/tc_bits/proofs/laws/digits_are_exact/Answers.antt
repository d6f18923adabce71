use Rattle.tc_bits.proofs.FaultlessFields.{faultless_says}
use Rattle.tc_bits.proofs.laws.digits_are_exact.Goals as goal

pub returns-clause-some : goal.returns-clause-some
returns-clause-some c = λ system raw none. (_, faultless_says system raw none)

pub returns-clause-these : goal.returns-clause-these
returns-clause-these c = faultless_says
