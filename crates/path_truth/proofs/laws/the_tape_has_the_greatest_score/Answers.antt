use Rattle.path_truth.proofs.TapeScore.{tape_path, tape_score}
use Rattle.path_truth.proofs.laws.the_tape_has_the_greatest_score.Goals as goal

pub returns-clause-path : goal.returns-clause-path
returns-clause-path c = λ place tape steps steady keeps. tape_path place tape steps steady.in_list steady.cells keeps

pub returns-clause-score : goal.returns-clause-score
returns-clause-score c = λ place tape steps steady keeps. tape_score place tape steps steady.cells keeps
