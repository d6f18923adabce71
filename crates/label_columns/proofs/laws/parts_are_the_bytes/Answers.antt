use Rattle.label_columns.proofs.Cut.{joined_parted}
use Rattle.label_columns.proofs.laws.parts_are_the_bytes.Goals as goal

pub returns : goal.returns
returns c = joined_parted
