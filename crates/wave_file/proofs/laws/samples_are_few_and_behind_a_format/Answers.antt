use Rattle.wave_file.proofs.FewSamples.{few_samples}
use Rattle.wave_file.proofs.laws.samples_are_few_and_behind_a_format.Goals as goal

pub returns : goal.returns
returns c = λ asked bytes. few_samples asked bytes
