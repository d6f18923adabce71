use Rattle.path_truth.proofs.DecidedSound.{decided_sound}
use Rattle.path_truth.proofs.SoundIntervals.{intervals-are, intervals-only}
use Rattle.path_truth.proofs.sound_laws.the_intervals_of_a_steady_sound_are_its_tapes.Goals as goal

pub returns-clause-are : goal.returns-clause-are
returns-clause-are c = λ place tape repeats ticks least low high samples is near some early.
    intervals-are c.cells_are_decided_of_each_sound.ensures.in_all place tape repeats ticks least low high samples is
    near some (decided_sound place tape repeats least low high samples
    is early)

pub returns-clause-only : goal.returns-clause-only
returns-clause-only c = λ place tape repeats ticks least low high samples intervals is near some early are.
    intervals-only place tape repeats ticks least low high samples intervals is near some
    (decided_sound place tape repeats least low high samples is early) are
