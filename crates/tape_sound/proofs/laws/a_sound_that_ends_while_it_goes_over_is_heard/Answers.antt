use Rattle.tape_sound.proofs.LastTransition.{are_many, is_heard}
use Rattle.tape_sound.proofs.laws.a_sound_that_ends_while_it_goes_over_is_heard.Goals as goal

pub returns-clause-heard : goal.returns-clause-heard
returns-clause-heard c = is_heard

pub returns-clause-many : goal.returns-clause-many
returns-clause-many c = are_many
