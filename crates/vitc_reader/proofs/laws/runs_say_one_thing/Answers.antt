use Rattle.std.proofs.Common.{arith}
use Rattle.vitc_reader.proofs.OneAnswer.{no_fault, one_fault}
use Rattle.vitc_reader.proofs.ReadSoFar.{only}
use Rattle.vitc_reader.proofs.laws.runs_say_one_thing.Goals as goal

pub returns-clause-one_number : goal.returns-clause-one_number
returns-clause-one_number c = λ n runs a b valid x y. let least = valid.0 in only n runs a b (omega (arith, least)) x y

pub returns-clause-one_fault : goal.returns-clause-one_fault
returns-clause-one_fault c = λ n runs a b valid x y. let least = valid.0 in one_fault n runs a b (omega (arith, least))
    x y

pub returns-clause-no_fault : goal.returns-clause-no_fault
returns-clause-no_fault c = λ n runs bits f valid stand fault. let least = valid.0 in
    no_fault n runs bits f (omega (arith, least)) stand fault
