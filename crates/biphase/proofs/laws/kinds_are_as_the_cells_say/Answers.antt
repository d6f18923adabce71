use Rattle.biphase.specs.KindLemmas.{chain_kinds}
use Rattle.biphase.proofs.laws.kinds_are_as_the_cells_say.Goals as goal

pub returns : goal.returns
returns c = chain_kinds
