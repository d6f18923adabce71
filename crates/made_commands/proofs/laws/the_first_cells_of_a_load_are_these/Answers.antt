use Rattle.std.proofs.Common.{refl}
use Rattle.made_commands.proofs.laws.the_first_cells_of_a_load_are_these.Goals as goal

-- by computing
pub returns-clause-cells : goal.returns-clause-cells
returns-clause-cells c = refl

pub returns-clause-shortest : goal.returns-clause-shortest
returns-clause-shortest c = refl

pub returns-clause-longest : goal.returns-clause-longest
returns-clause-longest c = refl

pub returns-clause-user : goal.returns-clause-user
returns-clause-user c = refl
