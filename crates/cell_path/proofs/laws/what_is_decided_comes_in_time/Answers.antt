use Rattle.cell_path.proofs.OneDecision.{in_time-append}
use Rattle.cell_path.proofs.laws.what_is_decided_comes_in_time.Goals as goal

pub returns : goal.returns
returns c = in_time-append
