use Rattle.cell_path.proofs.OneDecision.{one_in_all}
use Rattle.cell_path.proofs.laws.one_list_is_decided_in_all.Goals as goal

pub returns : goal.returns
returns c = one_in_all
