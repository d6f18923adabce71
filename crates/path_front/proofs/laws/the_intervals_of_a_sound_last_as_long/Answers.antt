use Rattle.path_front.proofs.IntervalsCover.{steps_of_samples, they_cover}
use Rattle.path_front.proofs.laws.the_intervals_of_a_sound_last_as_long.Goals as goal

pub returns-clause-long : goal.returns-clause-long
returns-clause-long c = they_cover c.the_cells_cover_the_sound.ensures

pub returns-clause-steps : goal.returns-clause-steps
returns-clause-steps c = steps_of_samples
