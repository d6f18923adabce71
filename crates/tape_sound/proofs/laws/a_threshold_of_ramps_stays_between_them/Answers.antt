use Rattle.tape_sound.proofs.AlongRamps.{falls_by_steps, rises_by_steps, stays_along}
use Rattle.tape_sound.proofs.WorkedRamps.{worked}
use Rattle.tape_sound.proofs.laws.a_threshold_of_ramps_stays_between_them.Goals as goal

pub returns-clause-between : goal.returns-clause-between
returns-clause-between c = stays_along

pub returns-clause-rising : goal.returns-clause-rising
returns-clause-rising c = rises_by_steps

pub returns-clause-falling : goal.returns-clause-falling
returns-clause-falling c = falls_by_steps

pub returns-clause-worked : goal.returns-clause-worked
returns-clause-worked c = worked
