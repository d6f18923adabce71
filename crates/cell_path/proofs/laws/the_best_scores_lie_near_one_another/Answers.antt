use Rattle.cell_path.proofs.NearLacks.{close_lacks}
use Rattle.cell_path.proofs.NearScores.{near_beginnings, near_ends}
use Rattle.cell_path.proofs.laws.the_best_scores_lie_near_one_another.Goals as goal

pub returns-clause-ends : goal.returns-clause-ends
returns-clause-ends c = near_ends

pub returns-clause-beginnings : goal.returns-clause-beginnings
returns-clause-beginnings c = near_beginnings

pub returns-clause-lacks : goal.returns-clause-lacks
returns-clause-lacks c = λ steps ago other path others are few low long best like.
    (close_lacks steps ago other path others are few low long best like).0
