use Rattle.cell_path.proofs.OneBest.{one_best}
use Rattle.cell_path.proofs.laws.there_is_one_best_path.Goals as goal

pub returns : goal.returns
returns c = one_best
