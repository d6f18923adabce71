use Rattle.pcm_front.proofs.Rising.{after_first, tick_at-within}
use Rattle.pcm_front.proofs.laws.a_crossing_lies_in_its_step.Goals as goal

pub returns-clause-place : goal.returns-clause-place
returns-clause-place c = λ threshold samples place is. after_first threshold samples place is

pub returns-clause-tick : goal.returns-clause-tick
returns-clause-tick c = λ fineness threshold samples place some is. tick_at-within fineness threshold samples place some
    is
