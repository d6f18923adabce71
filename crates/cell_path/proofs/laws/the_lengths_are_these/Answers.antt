use Rattle.std.proofs.Common.{refl}
use Rattle.cell_path.specs.Lengths.{rising, spelled}
use Rattle.cell_path.proofs.laws.the_lengths_are_these.Goals as goal

pub returns-clause-lengths : goal.returns-clause-lengths
unfolding rising spelled
returns-clause-lengths c = refl
