-- What is written and promised of a command is what is written and promised of it.
use Rattle.std.proofs.Common.{◌↔◌}

pub same : {P : Type 0} → P ↔ P
same = (λ holds. holds, λ holds. holds)
