use Rattle.tape_sound.proofs.WithinTheDelay.{goes_over_within}
use Rattle.tape_sound.proofs.laws.noise_keeps_crossings_within_the_delay.Goals as goal

pub returns : goal.returns
returns c = goes_over_within
