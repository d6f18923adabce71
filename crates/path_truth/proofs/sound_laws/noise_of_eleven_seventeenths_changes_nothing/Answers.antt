use Rattle.path_truth.proofs.SquareWave.{noisy_wave}
use Rattle.path_truth.proofs.sound_laws.noise_of_eleven_seventeenths_changes_nothing.Goals as goal

pub returns-clause-sound : goal.returns-clause-sound
returns-clause-sound c = noisy_wave
