use Rattle.cell_path.proofs.OneBest.{before_is_best}
use Rattle.cell_path.proofs.laws.what_stands_before_is_best.Goals as goal

pub returns : goal.returns
returns c = λ lengths steps place from sign end cell before best ends. before_is_best lengths steps place from sign end
    cell before best ends
