use Rattle.biphase.proofs.WornIsRough.{worn_is_rough}
use Rattle.biphase.proofs.laws.worn_cells_near_the_mean_are_rough.Goals as goal

pub returns : goal.returns
returns c = worn_is_rough
