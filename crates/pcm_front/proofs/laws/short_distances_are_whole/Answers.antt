use Rattle.pcm_front.proofs.IntervalsStay.{ended_so, short_so}
use Rattle.pcm_front.proofs.laws.short_distances_are_whole.Goals as goal

pub returns-clause-ended : goal.returns-clause-ended
returns-clause-ended c = λ settings samples. ended_so settings samples

pub returns-clause-short : goal.returns-clause-short
returns-clause-short c = λ length settings samples is fine most few. short_so length settings samples is fine most few
