use Rattle.pcm_front.proofs.FollowedSound.{behind_the_first, followed, followed_deep}
use Rattle.pcm_front.proofs.laws.a_sound_is_sliced_at_a_threshold_that_follows.Goals as goal

pub returns-clause-follow : goal.returns-clause-follow
returns-clause-follow c = followed

pub returns-clause-deep : goal.returns-clause-deep
returns-clause-deep c = followed_deep

pub returns-clause-behind : goal.returns-clause-behind
returns-clause-behind c = behind_the_first
