use Rattle.cell_path.proofs.OneDecision.{decided_before}
use Rattle.cell_path.proofs.laws.what_is_decided_stays.Goals as goal

pub returns : goal.returns
returns c = decided_before
