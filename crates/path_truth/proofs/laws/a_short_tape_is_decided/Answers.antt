use Rattle.path_truth.proofs.DecidedTape.{decided-tape}
use Rattle.path_truth.proofs.SoFarDecided.{short-is-early}
use Rattle.path_truth.proofs.laws.a_short_tape_is_decided.Goals as goal

pub returns : goal.returns
returns c = λ place tape steps all steady keeps short are.
    decided-tape place tape steps all steady keeps (short-is-early place tape steps steady keeps short) are
