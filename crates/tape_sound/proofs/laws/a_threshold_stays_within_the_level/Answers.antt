use Rattle.tape_sound.proofs.FollowedLevel.{stays_between}
use Rattle.tape_sound.proofs.laws.a_threshold_stays_within_the_level.Goals as goal

pub returns : goal.returns
returns c = stays_between c.levels_are_bounded.ensures.peak
