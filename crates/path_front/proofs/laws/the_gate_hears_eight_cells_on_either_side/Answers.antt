use Rattle.std.proofs.Common.{◌||◌, ap₂}
use Rattle.path_front.specs.Gate.{refuses_between}
use Rattle.path_front.proofs.laws.the_gate_hears_eight_cells_on_either_side.Goals as goal

pub returns : goal.returns
returns c = λ ear before other cell behind far near next.
    ap₂ (λ b a. cell.jumps || refuses_between ear b cell a) near next
