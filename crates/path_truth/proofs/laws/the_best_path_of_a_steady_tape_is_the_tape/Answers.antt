use Rattle.path_truth.proofs.BestIsTape.{best_is_tape, tape_is_best}
use Rattle.path_truth.proofs.laws.the_best_path_of_a_steady_tape_is_the_tape.Goals as goal

pub returns-clause-best : goal.returns-clause-best
returns-clause-best c = tape_is_best c.cells_are_decided_of_each_sound.ensures.best

pub returns-clause-only : goal.returns-clause-only
returns-clause-only c = best_is_tape
