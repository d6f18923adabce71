use Rattle.biphase.specs.ChainLemmas.{comparable}
use Rattle.biphase.proofs.laws.chains_at_one_place_agree.Goals as goal

pub returns : goal.returns
returns c = comparable
