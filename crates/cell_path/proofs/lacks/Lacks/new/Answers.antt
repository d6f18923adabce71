use Rattle.std.proofs.Common.{replicate, refl}
use Rattle.cell_path.proofs.LeastLack.{no_lacks}
use Rattle.cell_path.proofs.lacks.Lacks.new.Goals as goal

pub returns-clause-stands : goal.returns-clause-stands
returns-clause-stands c = no_lacks (record { ring = replicate 132 0; next = 0; sizes = 0 }) refl
