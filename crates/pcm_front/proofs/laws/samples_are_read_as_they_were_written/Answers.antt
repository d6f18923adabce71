use Rattle.pcm_front.proofs.ReadBack.{read_back, sound_back}
use Rattle.pcm_front.proofs.laws.samples_are_read_as_they_were_written.Goals as goal

pub returns-clause-read : goal.returns-clause-read
returns-clause-read c = λ samples fit. read_back samples fit

pub returns-clause-sound : goal.returns-clause-sound
returns-clause-sound c = λ size intervals below. sound_back size intervals below
