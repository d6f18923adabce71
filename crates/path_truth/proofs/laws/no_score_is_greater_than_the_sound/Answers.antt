use Rattle.path_truth.proofs.NoGreater.{score-most}
use Rattle.path_truth.proofs.laws.no_score_is_greater_than_the_sound.Goals as goal

pub returns : goal.returns
returns c = score-most
