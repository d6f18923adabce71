use Rattle.biphase.proofs.ShapedIsAChain.{shaped_is_a_chain, bits_of_shaped, shaped_intervals}
use Rattle.biphase.proofs.laws.shaped_cells_are_a_chain.Goals as goal

pub returns-clause-chain : goal.returns-clause-chain
returns-clause-chain c = shaped_is_a_chain

pub returns-clause-bits : goal.returns-clause-bits
returns-clause-bits c = λ shape list. bits_of_shaped shape 0 list

pub returns-clause-intervals : goal.returns-clause-intervals
returns-clause-intervals c = shaped_intervals
