use Rattle.path_front.proofs.SaidSound.{sound_said}
use Rattle.path_front.proofs.laws.each_interval_of_a_sound_can_be_said.Goals as goal

pub returns-clause-said : goal.returns-clause-said
returns-clause-said c =
    sound_said c.the_cells_cover_the_sound.ensures c.the_cells_of_a_sound_lie_near_one_another.ensures.near
    c.the_cells_of_a_sound_lie_near_one_another.ensures.lengths
