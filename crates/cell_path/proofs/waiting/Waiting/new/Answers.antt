use Rattle.std.proofs.Common.{◌<◌, arith, refl}
use Rattle.std.proofs.lemmas.List.Elements.{All-replicate}
use Rattle.cell_path.specs.declared.placed.Placed.{Placed}
use Rattle.cell_path.proofs.Followed.{no_cell}
use Rattle.cell_path.proofs.waiting.Waiting.new.Goals as goal

pub invariant_of-result : goal.invariant_of-result
invariant_of-result c =
    (refl, omega arith, All-replicate (λ (cell : Placed). cell.cell.place < 45) 512 no_cell (omega arith))
