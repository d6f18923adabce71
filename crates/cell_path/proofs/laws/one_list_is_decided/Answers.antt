use Rattle.cell_path.proofs.OneDecision.{one_decision}
use Rattle.cell_path.proofs.laws.one_list_is_decided.Goals as goal

pub returns : goal.returns
returns c = one_decision
