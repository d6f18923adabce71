use Rattle.std.proofs.Common.{refl}
use Rattle.path_front.specs.Grid.{total, waiting}
use Rattle.path_front.proofs.group.Group.new.Goals as goal

pub returns-clause-stands : goal.returns-clause-stands
unfolding total waiting
returns-clause-stands c = λ summed. record { many = refl; clipped = refl; held = refl }
