use Rattle.cell_tracker.proofs.StretchesGoOn.{stretches_go_on}
use Rattle.cell_tracker.proofs.laws.stretches_go_on.Goals as goal

pub returns : goal.returns
returns c = stretches_go_on
