use Rattle.std.proofs.Common.{replicate}
use Rattle.cell_path.proofs.NextStep.{no_sums_stand, zeros_ago}
use Rattle.cell_path.proofs.sums.Sums.new.Goals as goal

pub returns-clause-stands : goal.returns-clause-stands
returns-clause-stands c = no_sums_stand (record { ring = replicate 132 0; next = 0 }) (λ ago near. zeros_ago ago)
