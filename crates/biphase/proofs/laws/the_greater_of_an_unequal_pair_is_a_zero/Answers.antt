use Rattle.biphase.specs.ZeroLemmas.{greater_is_zero}
use Rattle.biphase.proofs.laws.the_greater_of_an_unequal_pair_is_a_zero.Goals as goal

pub returns : goal.returns
returns c = greater_is_zero
